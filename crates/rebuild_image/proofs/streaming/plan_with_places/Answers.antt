use Rattle.std.proofs.Common.{arith}
use Rattle.rebuild_image.proofs.StoredLaws.{places_long}
use Rattle.rebuild_image.proofs.streaming.plan_with_places.Goals as goal

pub returns-then-places-parts-clause-err : goal.returns-then-places-parts-clause-err
returns-then-places-parts-clause-err c = λ o is.
    let count = is.listed.count in
    let long = places_long o c.in-Ok.planned (c.in-Ok.ensures.ok o is) in
    absurd (omega (
      arith,
      count,
      long,
      c.if-places-parts.true,
      c.len-places.ensures,
      c.len.ensures,
      c.saturating_sub-parts.ensures,
    ))
