use Rattle.std.proofs.Common.{◌∙◌, ◌≡◌, length, true, false, sym, ap, arith}
use Rattle.rebuild_model.specs.elf_object.Layout.{table_alignment}
use Rattle.elf_update_plan.proofs.RowLaws.{ok_is, told_class_is}
use Rattle.rebuild_making.proofs.TailLaws.{walk_begins, walk_goes_on, walk_stops, table_found}
use Rattle.rebuild_making.proofs.places.find_table_place.Goals as goal

pub loop-s-init : goal.loop-s-init
loop-s-init g c = walk_begins c.args.elf.now.o c.args.tail c.args.limit

pub next_end-requires-clause-there : goal.next_end-requires-clause-there
next_end-requires-clause-there g c =
    let count = ok_is _ _ c.shnum-s-end.ensures in omega (arith, count, c.loop-s-test.true)

pub next_end-requires-clause-first : goal.next_end-requires-clause-first
next_end-requires-clause-first g c = let first = c.loop-s.auto.s in omega (arith, first)

pub loop-s-preserved : goal.loop-s-preserved
loop-s-preserved g c =
    walk_goes_on c.args.elf.now.o c.args.tail c.args.limit c.loop-s.end c.loop-s.s
    (let first = c.loop-s.auto.s in omega (arith, first)) c.loop-s.invariant c.in-Some.after
    c.in-Some.ensures.0 c.in-Some.ensures.1

pub returns-in-None : goal.returns-in-None
returns-in-None g c = λ none.
    let count = ok_is _ _ c.shnum-s-end.ensures in
    let first = c.loop-s.auto.s in
    let past = walk_stops c.args.elf.now.o c.args.tail c.args.limit c.loop-s.end c.loop-s.s
    (omega (arith, first)) c.loop-s.invariant (omega (arith, count, c.loop-s-test.true))
    c.in-None.ensures in
    let clash : false ≡ true = sym none ∙ past in cc

pub returns : goal.returns
returns g c =
    let count = ok_is _ _ c.shnum-s-end.ensures in
    let last : c.loop-s.s ≡ length c.args.elf.now.o.sections =
    omega (arith, count, c.loop-s-test.false, c.loop-s.auto.s-end, c.requires.some) in
    table_found c.args.elf.now.o c.args.tail c.args.limit c.loop-s.end c.loop-s.s
    c.table_alignment.result c.rounded_within.result c.requires.some last c.loop-s.invariant
    (c.table_alignment.ensures
    ∙ ap table_alignment (told_class_is c.args.elf.now.o _ c.ehdr.ensures)) c.rounded_within.ensures
