use Rattle.std.proofs.Common.{◌≡◌, false, List, refl, subst, arith}
use Rattle.std.specs.Prelude.{All}
use Rattle.rebuild_image.specs.declared.ranges.ranges.ByteRange.{ByteRange}
use Rattle.rebuild_image.specs.Ranges.Ranges.{bytes_of_source, IsInside}
use Rattle.rebuild_image.proofs.ranges.CheckLaws.{found_more, no_by, never_both, not_each}
use Rattle.rebuild_image.proofs.ranges.checks.are_sections_inside.Goals as goal

pub loop-range-init : goal.loop-range-init
loop-range-init g c = λ i d below. absurd (omega (arith, below))

pub loop-range-preserved : goal.loop-range-preserved
loop-range-preserved g c =
    found_more (IsInside c.args.parts.now.held (bytes_of_source g.S.Source c.args.parts.now.source))
    c.as_slice-range-items.result.now
    c.loop-range.range-index _ c.loop-range-test.true c.loop-range.invariant
    (c.is_inside.ensures.0 c.if-not-is_inside.false)

pub returns-then-not-is_inside : goal.returns-then-not-is_inside
returns-then-not-is_inside g c =
    let no : c.is_inside.result ≡ false = cc in
    let held = c.args.parts.now.held in
    let base = bytes_of_source g.S.Source c.args.parts.now.source in
    no_by (All (IsInside held base) c.args.parts.now.ranges.sections)
    (not_each (IsInside held base) c.as_slice-range-items.result.now
    c.args.parts.now.ranges.sections c.loop-range.range-index _ c.as_slice-range-items.ensures
    c.loop-range-test.true
    (λ inside. never_both c.is_inside.result (c.is_inside.ensures.1 inside) no))

pub returns : goal.returns
returns g c =
    let held = c.args.parts.now.held in
    let base = bytes_of_source g.S.Source c.args.parts.now.source in (
      (λ is.
          subst (λ (l : List ByteRange). All (IsInside held base) l)
          c.as_slice-range-items.ensures
          (λ i d there.
          c.loop-range.invariant i d (omega (arith, there, c.loop-range-test.false)))),
      λ inside. refl,
    )
