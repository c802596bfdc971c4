use Rattle.std.proofs.Common.{◌<◌, ◌≤◌, ℕ, length, sym, ap, ◌∙◌, subst, arith}
use Rattle.elf_types.specs.declared.errors.ElfError.TheVariants.{TooLarge}
use Rattle.rebuild_model.specs.elf_layout.Layout.{limit_of}
use Rattle.rebuild_model.specs.Arranged.{tail_refusal}
use Rattle.elf_update_plan.proofs.RowLaws.{ok_is, told_class_is}
use Rattle.rebuild_making.proofs.PlaceLaws.{empty_passes, empty_stays, tail_passes, tail_refused, passes_answer, refusal_answered}
use Rattle.rebuild_making.proofs.TailLaws.{table_within}
use Rattle.rebuild_making.proofs.StoreLaws.{table_index, table_limit, all_placed}
use Rattle.rebuild_making.proofs.places.arrange_behind.Goals as goal

pub returns-then-count-eq0-clause-answer : goal.returns-then-count-eq0-clause-answer
returns-then-count-eq0-clause-answer g c =
    let o = c.args.elf.now.o in
    passes_answer (tail_refusal o c.args.tail)
    (empty_passes o c.args.tail (sym (ok_is _ _ c.shnum-count.ensures) ∙ c.if-count-eq0.true))

pub returns-then-count-eq0-clause-state : goal.returns-then-count-eq0-clause-state
returns-then-count-eq0-clause-state g c =
    empty_stays c.args.elf.now c.args.tail
    (sym (ok_is _ _ c.shnum-count.ensures) ∙ c.if-count-eq0.true)

pub find_table_place-requires-clause-some : goal.find_table_place-requires-clause-some
find_table_place-requires-clause-some g c =
    let count = ok_is _ _ c.shnum-count.ensures in omega (arith, count, c.if-count-eq0.false)

pub find_table_place-requires-clause-limit : goal.find_table_place-requires-clause-limit
find_table_place-requires-clause-limit g c =
    c.greatest_place-limit.ensures ∙ ap limit_of (told_class_is c.args.elf.now.o _ c.ehdr.ensures)

pub store_places-requires-clause-some : goal.store_places-requires-clause-some
store_places-requires-clause-some g c =
    let count = ok_is _ _ c.shnum-count.ensures in omega (arith, count, c.if-count-eq0.false)

pub store_places-requires-clause-limit : goal.store_places-requires-clause-limit
store_places-requires-clause-limit g c =
    c.greatest_place-limit.ensures ∙ ap limit_of (told_class_is c.args.elf.now.o _ c.ehdr.ensures)

pub store_places-requires-clause-fits : goal.store_places-requires-clause-fits
store_places-requires-clause-fits g c = c.in-Some.ensures.0

pub store_table_place-requires-clause-index : goal.store_table_place-requires-clause-index
store_table_place-requires-clause-index g c =
    let count = ok_is _ _ c.shnum-count.ensures in
    table_index c.args.elf.now c.store_places.new.elf c.args.tail c.store_places.ensures
    (omega (arith, count, c.if-count-eq0.false)) c.requires

pub store_table_place-requires-clause-fits : goal.store_table_place-requires-clause-fits
store_table_place-requires-clause-fits g c =
    let o = c.args.elf.now.o in
    let count = ok_is _ _ c.shnum-count.ensures in
    let limit = c.greatest_place-limit.result in
    let some : 0 < length o.sections = omega (arith, count, c.if-count-eq0.false) in
    table_limit c.args.elf.now c.store_places.new.elf c.args.tail c.store_places.ensures
    c.in-Some.place limit
    (subst (λ (n : ℕ). n ≤ limit) (sym c.in-Some.ensures.1)
    (table_within o c.args.tail some limit c.in-Some.ensures.0))
    (c.greatest_place-limit.ensures ∙ ap limit_of (told_class_is o _ c.ehdr.ensures))

pub returns-in-Some-clause-answer : goal.returns-in-Some-clause-answer
returns-in-Some-clause-answer g c =
    let o = c.args.elf.now.o in
    passes_answer (tail_refusal o c.args.tail)
    (tail_passes o c.args.tail c.greatest_place-limit.result
    (c.greatest_place-limit.ensures ∙ ap limit_of (told_class_is o _ c.ehdr.ensures))
    c.in-Some.ensures.0)

pub returns-in-Some-clause-state : goal.returns-in-Some-clause-state
returns-in-Some-clause-state g c =
    let count = ok_is _ _ c.shnum-count.ensures in
    all_placed c.args.elf.now c.store_places.new.elf c.args.tail c.store_places.ensures
    c.store_table_place.new.elf c.in-Some.place (omega (arith, count, c.if-count-eq0.false))
    c.in-Some.ensures.1 c.store_table_place.ensures

pub returns-in-None-clause-answer : goal.returns-in-None-clause-answer
returns-in-None-clause-answer g c =
    let o = c.args.elf.now.o in
    refusal_answered (tail_refusal o c.args.tail) TooLarge
    (tail_refused o c.args.tail c.greatest_place-limit.result
    (c.greatest_place-limit.ensures ∙ ap limit_of (told_class_is o _ c.ehdr.ensures))
    c.in-None.ensures)
