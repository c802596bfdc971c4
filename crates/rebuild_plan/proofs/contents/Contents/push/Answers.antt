use Rattle.std.proofs.Common.{refl}
use Rattle.rebuild_plan.proofs.contents.Contents.push.Goals as goal

pub returns-clause-pushed : goal.returns-clause-pushed
returns-clause-pushed c = record {
  headers = c.in_ok-push.ensures.ok;
  sizes = c.in_ok-push-2.ensures.ok;
  ranges = c.in_ok-push-3.ensures.ok;
  kinds_are = c.in_ok-push-4.ensures.ok;
  held = refl;
  small = c.ranges.size.fits;
}
