use Rattle.std.proofs.Common.{◌≡◌, ℕ, List, ◌+◌, length, ap, sym, ◌∙◌, subst, arith}
use Rattle.elf_types.specs.declared.records.Shdr.{Shdr}
use Rattle.rebuild_select.proofs.NameLaws.{ok_injective}
use Rattle.rebuild_numbers.specs.Kept.Tables.{has_indexes, AreFirstLinking}
use Rattle.rebuild_numbers.proofs.kept.FirstLaws.{first_none, step_noted, step_same}
use Rattle.rebuild_numbers.proofs.kept.tables.note_tables.Goals as goal
use Rattle.rebuild_numbers.proofs.kept.tables.note_tables.Goals.{then-counts, else-counts}

pub loop-s-init : goal.loop-s-init
loop-s-init g c =
    let o = c.args.elf.now.o in
    first_none o (has_indexes o c.args.removed.now) c.args.first.now c.requires

pub loop-s-preserved : goal.loop-s-preserved
loop-s-preserved g c =
    let o = c.args.elf.now.o in
    let passes = has_indexes o c.args.removed.now in
    let s = c.loop-s.s in
    elim c.if-counts.branch [
      | then-counts w ↦ subst (λ (l : List ℕ). AreFirstLinking o passes l (s + 1))
          (sym (w.first-is ∙ w.note_first.ensures))
          (step_noted o passes c.loop-s.first s _ (sym c.counts.ensures ∙ w.if-counts.true)
          (ap (λ (h : Shdr). h.link) w.section_header.ensures) c.loop-s.invariant)
      | else-counts w ↦ subst (λ (l : List ℕ). AreFirstLinking o passes l (s + 1))
          (sym w.first-is)
          (step_same o passes c.loop-s.first s (sym c.counts.ensures ∙ w.if-counts.false)
          c.loop-s.invariant)
    ]

pub returns : goal.returns
returns g c =
    let o = c.args.elf.now.o in
    let count = ok_injective _ _ c.shnum-s-end.ensures in
    let all : c.loop-s.s ≡ length o.sections =
    omega (arith, count, c.loop-s-test.false, c.loop-s.auto.s-end) in
    subst (λ (n : ℕ). AreFirstLinking o (has_indexes o c.args.removed.now) c.loop-s.first n) all
    c.loop-s.invariant
