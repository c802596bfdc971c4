use Rattle.std.proofs.Common.{◌++◌}
use Rattle.rebuild_join.proofs.AddLaws.{range_added, range_refused}
use Rattle.rebuild_join.proofs.adding.add_own.Goals as goal

pub returns-in-Ok : goal.returns-in-Ok
returns-in-Ok g c =
    range_added c.args.debug.now.told (c.args.stripped.now.o.base ++ c.args.debug.now.o.base)
    c.args.header.now c.args.debug.now.o c.args.s.0 c.args.contents.now c.add.new.self
    c.in-Ok.range c.add.result c.in-Ok.ensures c.add.ensures.added c.add.ensures.err

pub returns-in-Err : goal.returns-in-Err
returns-in-Err g c =
    range_refused c.args.debug.now.told (c.args.stripped.now.o.base ++ c.args.debug.now.o.base)
    c.args.header.now c.args.debug.now.o c.args.s.0 c.args.contents.now c.args.contents.now
    c.in-Err.e c.in-Err.ensures
