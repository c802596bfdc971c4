use Rattle.std.proofs.Common.{Bool, List, ◌+◌, ap, sym, ◌∙◌, subst}
use Rattle.elf_types.specs.declared.records.Shdr.{Shdr}
use Rattle.rebuild_select.specs.Marking.{AreLinked}
use Rattle.rebuild_select.proofs.LinkLaws.{step_marked, step_same}
use Rattle.rebuild_select.proofs.links.mark_linked.Goals as goal
use Rattle.rebuild_select.proofs.links.mark_linked.Goals.{then-counts, else-counts}

pub loop-s-preserved : goal.loop-s-preserved
loop-s-preserved g c =
    let o = c.args.elf.now.o in
    let passes = g.T.SectionTest.passes c.args.test.now o in
    let s = c.loop-s.s in
    elim c.if-counts.branch [
      | then-counts w ↦ subst (λ (m : List Bool). AreLinked o passes m (s + 1))
          (sym (w.marks-is ∙ w.mark.ensures))
          (step_marked o passes c.loop-s.marks s _ (sym c.counts.ensures ∙ w.if-counts.true)
          (ap (λ (h : Shdr). h.link) w.section_header.ensures) c.loop-s.invariant)
      | else-counts w ↦ subst (λ (m : List Bool). AreLinked o passes m (s + 1))
          (sym w.marks-is)
          (step_same o passes c.loop-s.marks s (sym c.counts.ensures ∙ w.if-counts.false)
          c.loop-s.invariant)
    ]
