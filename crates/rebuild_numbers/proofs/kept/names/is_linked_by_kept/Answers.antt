use Rattle.std.proofs.Common.{◌-◌, ℕ, not, length, refl, sym, ap, ◌∙◌, arith}
use Rattle.std.specs.List.{range_with_len, list_any}
use Rattle.std.proofs.lemmas.Bool.{or_from}
use Rattle.rebuild_select.specs.elf_object.Sections.{is_among}
use Rattle.rebuild_select.specs.Steps.{links_to}
use Rattle.rebuild_select.proofs.LinkLaws.{any_next}
use Rattle.rebuild_select.proofs.NameLaws.{ok_injective}
use Rattle.rebuild_numbers.proofs.kept.RangeLaws.{any_at, last_number}
use Rattle.rebuild_numbers.proofs.kept.names.is_linked_by_kept.Goals as goal

pub returns-then-links_to : goal.returns-then-links_to
returns-then-links_to g c =
    let o = c.args.elf.now.o in
    let p = links_to o (λ user. not (is_among c.args.removed.now user)) c.args.target in
    let count = ok_injective _ _ c.shnum-s-end.ensures in
    sym (any_at p 1 (length o.sections - 1) c.loop-s.s c.loop-s.auto.s
    (omega (arith, count, c.loop-s-test.true, c.loop-s.auto.s))
    (sym c.links_to.ensures ∙ c.if-links_to.true))

pub loop-s-init : goal.loop-s-init
loop-s-init g c = record { none = refl; within = omega arith }

pub loop-s-preserved : goal.loop-s-preserved
loop-s-preserved g c =
    let o = c.args.elf.now.o in
    let p = links_to o (λ user. not (is_among c.args.removed.now user)) c.args.target in
    record {
      none = any_next p c.loop-s.s (omega (arith, c.loop-s.auto.s))
          ∙ or_from (list_any p (range_with_len 1 (c.loop-s.s - 1))) (p c.loop-s.s)
          c.loop-s.invariant.none (sym c.links_to.ensures ∙ c.if-links_to.false);
      within = omega (arith, c.loop-s-test.true);
    }

pub returns : goal.returns
returns g c =
    let o = c.args.elf.now.o in
    let p = links_to o (λ user. not (is_among c.args.removed.now user)) c.args.target in
    let count = ok_injective _ _ c.shnum-s-end.ensures in
    let all = last_number (length o.sections) c.shnum-s-end.result c.loop-s.s count
    c.loop-s-test.false c.loop-s.auto.s-end c.loop-s.invariant.within in
    sym c.loop-s.invariant.none ∙ ap (λ (n : ℕ). list_any p (range_with_len 1 n)) all
