use Rattle.std.proofs.Common.{◌++◌}
use Rattle.rebuild_join.proofs.RangeLaws.{found_behind, out_found}
use Rattle.rebuild_join.proofs.ranges.range_behind.Goals as goal

pub returns-in-Some : goal.returns-in-Some
returns-in-Some g c =
    found_behind c.args.debug.now c.args.s.0 c.requires.there c.requires.debug c.in-Ok.range
    c.in-Ok.ensures c.args.stripped.now.o.base c.base_len.result c.in-Some.moved
    c.base_len.ensures c.in-Some.ensures

pub returns-in-None : goal.returns-in-None
returns-in-None g c = record { ok = tt; passed = tt; err = tt }

pub returns-in-Err : goal.returns-in-Err
returns-in-Err g c =
    out_found c.args.debug.now c.args.s.0 c.requires.there c.requires.debug
    (c.args.stripped.now.o.base ++ c.args.debug.now.o.base) c.in-Err.e c.in-Err.ensures
