use Rattle.calls_tool.proofs.ScriptLemmas.{says_calls, says_bad}
use Rattle.calls_tool.proofs.scripts.calls_in.Goals as goal

pub returns-in-Ok : goal.returns-in-Ok
returns-in-Ok c = says_calls c.args.bytes.now _ c.in-Ok.ensures

pub returns-in-Err-Line : goal.returns-in-Err-Line
returns-in-Err-Line c = says_bad c.args.bytes.now _ _ (rw c.in-Err-Line.field-0-is at c.in-Err-Line.ensures)
