use Rattle.std.proofs.Common.{◌∙◌, ap, sym, Vec, Global}
use Rattle.elf_layout.specs.declared.meeting.Extent.{Extent}
use Rattle.elf_layout.specs.Extents.{extent_of}
use Rattle.elf_layout.proofs.Ranks.{extents_none, extents_more, extents_same, extents_all}
use Rattle.elf_layout.proofs.meeting.extents.Goals as goal
use Rattle.elf_layout.proofs.meeting.extents.Goals.{then-has_bytes+in_ok-push, else-has_bytes}

pub loop-rank-init : goal.loop-rank-init
loop-rank-init c = extents_none _ _ c.in_ok-extents.ensures.items

pub loop-rank-preserved : goal.loop-rank-preserved
unfolding extent_of
loop-rank-preserved c =
    elim c.if-has_bytes.branch [
      | then-has_bytes+in_ok-push w ↦
          extents_more _ _ _ _ _ c.loop-rank-test.true c.loop-rank.invariant (sym c.has_bytes.ensures ∙ w.if-has_bytes.true)
          (ap (λ (made : Vec Extent Global). made.items) w.extents-is ∙ w.in_ok-push.ensures.items)
      | else-has_bytes w ↦
          extents_same _ _ _ _ _ c.loop-rank-test.true c.loop-rank.invariant (sym c.has_bytes.ensures ∙ w.if-has_bytes.false)
          (ap (λ (made : Vec Extent Global). made.items) w.extents-is)
    ]

pub returns-clause-ok : goal.returns-clause-ok
returns-clause-ok c = extents_all _ _ _ c.loop-rank-test.false c.loop-rank.invariant
