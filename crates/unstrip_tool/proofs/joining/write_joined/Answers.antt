use Rattle.std.proofs.Common.{◌+◌, ◌<◌, ◌^◌, length, arith}
use Rattle.unstrip_tool.proofs.BesideLemmas.{same_source}
use Rattle.unstrip_tool.proofs.JoinLemmas.{joined_written, not_joined}
use Rattle.unstrip_tool.proofs.PairLemmas.{over_long}
use Rattle.unstrip_tool.proofs.joining.write_joined.Goals as goal

pub plan_joined-requires-clause-stripped_clean : goal.plan_joined-requires-clause-stripped_clean
plan_joined-requires-clause-stripped_clean g c = c.requires.stripped

pub plan_joined-requires-clause-debug_clean : goal.plan_joined-requires-clause-debug_clean
plan_joined-requires-clause-debug_clean g c = c.requires.debug

pub plan_joined-requires-clause-stripped_tied : goal.plan_joined-requires-clause-stripped_tied
plan_joined-requires-clause-stripped_tied g c = c.requires.tied.0

pub plan_joined-requires-clause-debug_tied : goal.plan_joined-requires-clause-debug_tied
plan_joined-requires-clause-debug_tied g c = c.requires.tied.1

pub plan_joined-requires-clause-fits : goal.plan_joined-requires-clause-fits
plan_joined-requires-clause-fits g c = c.requires.fits

pub write_pair-requires : goal.write_pair-requires
write_pair-requires g c =
    let small : length c.args.stripped.o.base + length c.args.debug.o.base < 2 ^ 64 =
    c.in-Ok.ensures.small in
    let one = over_long g.S.Source c.args.stripped c.requires.over.0
    (g.met.S.Source.sized c.args.stripped.source) in
    let other = over_long g.T.Source c.args.debug c.requires.over.1
    (g.met.T.Source.sized c.args.debug.source) in
    rw (c.end-first.ensures, c.end-second.ensures) (omega (arith, small, one, other))

pub returns-in-Ok-clause-writes : goal.returns-in-Ok-clause-writes
returns-in-Ok-clause-writes g c =
    joined_written g.S.Source g.T.Source g.F.Files g.O.Sink g.E.Sink c.args.out.now
    c.args.names.now c.args.stripped c.args.debug c.write_pair.result.0.0
    c.write_pair.result.0.1 c.in-Ok.plan c.write_pair.result.1 c.args.files.now
    c.write_pair.new.files c.args.outputs.now c.write_pair.new.outputs c.requires.over.0
    c.requires.over.1 c.in-Ok.ensures
    (rw (c.end-first.ensures, c.end-second.ensures) at c.write_pair.ensures)

pub returns-in-Ok-clause-leaves_stripped : goal.returns-in-Ok-clause-leaves_stripped
returns-in-Ok-clause-leaves_stripped g c = rw c.end-first.ensures at c.write_pair.ensures.first

pub returns-in-Ok-clause-leaves_debug : goal.returns-in-Ok-clause-leaves_debug
returns-in-Ok-clause-leaves_debug g c = rw c.end-second.ensures at c.write_pair.ensures.second

pub returns-in-Err-clause-writes : goal.returns-in-Err-clause-writes
returns-in-Err-clause-writes g c =
    not_joined g.S.Source g.T.Source g.F.Files g.O.Sink g.E.Sink c.args.out.now
    c.args.names.now c.args.stripped c.args.debug c.end.result c.end-in-Err.result
    c.refuse_fault-refused.result c.args.files.now c.args.outputs.now
    c.refuse_fault-refused.new.outputs c.in-Err.fault c.in-Err.ensures
    c.refuse_fault-refused.ensures

pub returns-in-Err-clause-leaves_stripped : goal.returns-in-Err-clause-leaves_stripped
returns-in-Err-clause-leaves_stripped g c =
    rw c.end.ensures (same_source g.S.Source c.args.stripped.source)

pub returns-in-Err-clause-leaves_debug : goal.returns-in-Err-clause-leaves_debug
returns-in-Err-clause-leaves_debug g c =
    rw c.end-in-Err.ensures (same_source g.T.Source c.args.debug.source)
