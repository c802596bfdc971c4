use Rattle.rebuild_join.proofs.RangeLaws.{place_moved}
use Rattle.rebuild_join.proofs.ranges.move_behind.Goals as goal

pub returns-in-Some : goal.returns-in-Some
returns-in-Some c =
    place_moved c.args.range c.args.len _ c.in-Some.at c.in-Some.ensures
