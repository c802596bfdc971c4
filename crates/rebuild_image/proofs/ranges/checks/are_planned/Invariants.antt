use Rattle.rebuild_image.specs.Ranges.Ranges.{kept_of_parts}
use Rattle.rebuild_image.proofs.ranges.CheckLaws.{PlannedBelow}
use Rattle.rebuild_image.proofs.ranges.checks.are_planned.Given as goal

abbrev pub invariant-loop-part : goal.invariant-loop-part
invariant-loop-part g l =
    PlannedBelow (kept_of_parts g.S.Source l.parts) l.plan l.end l.part-index l.from
