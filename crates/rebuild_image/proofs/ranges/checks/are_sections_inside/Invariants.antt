use Rattle.rebuild_image.specs.Ranges.Ranges.{bytes_of_source, IsInside}
use Rattle.rebuild_image.proofs.ranges.CheckLaws.{FoundBelow}
use Rattle.rebuild_image.proofs.ranges.checks.are_sections_inside.Given as goal

abbrev pub invariant-loop-range : goal.invariant-loop-range
invariant-loop-range g l =
    FoundBelow (IsInside l.parts.held (bytes_of_source g.S.Source l.parts.source)) l.range-items
    l.range-index
