use Rattle.std.proofs.Common.{arith}
use Rattle.calls_tool.proofs.ScriptLemmas.{too_long, script_read, script_unread}
use Rattle.calls_tool.proofs.scripts.read_calls.Goals as goal

pub returns-then-len : goal.returns-then-len
returns-then-len g c = too_long g.S.Source c.args.src.now (g.met.S.Source.sized c.args.src.now)
    (omega (arith, c.if-len.true, c.len-len.ensures.size))

pub returns-in-Ok : goal.returns-in-Ok
returns-in-Ok g c =
    script_read g.S.Source c.args.src.now (g.met.S.Source.sized c.args.src.now) _ _ c.len-len.ensures.size _ _ _ _ c.in-Ok.ensures.bytes c.in-Ok.ensures.asks (rw c.as_slice.ensures at c.calls_in.ensures)

pub returns-in-Err : goal.returns-in-Err
returns-in-Err g c =
    script_unread g.S.Source c.args.src.now (g.met.S.Source.sized c.args.src.now) _ _ c.len-len.ensures.size _ _ _ c.in-Err.ensures.err c.stop_of_read.ensures c.in-Err.ensures.asks
