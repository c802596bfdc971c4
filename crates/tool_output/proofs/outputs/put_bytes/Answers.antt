use Rattle.std.proofs.Common.{rules}
use Rattle.std.proofs.lemmas.Result.{on_ok_weaker, on_err_weaker}
use Rattle.tool_output.proofs.MarkLemmas.{nothing_put, out_put, error_put, out_front, error_front}
use Rattle.tool_output.proofs.outputs.put_bytes.Goals as goal

pub returns-then-is_empty-clause-ok : goal.returns-then-is_empty-clause-ok
returns-then-is_empty-clause-ok g c = nothing_put _ _ c.args.side c.args.bytes.now (search rules)

pub returns-in-Out-clause-ok : goal.returns-in-Out-clause-ok
returns-in-Out-clause-ok g c = rw c.in-Out.is (on_ok_weaker c.put.result (out_put _ _ _ _) c.put.ensures.ok)

pub returns-in-Out-clause-front : goal.returns-in-Out-clause-front
returns-in-Out-clause-front g c = rw c.in-Out.is (on_err_weaker c.put.result (out_front _ _ _ _) c.put.ensures.err)

pub returns-in-Error-clause-ok : goal.returns-in-Error-clause-ok
returns-in-Error-clause-ok g c = rw c.in-Error.is (on_ok_weaker c.put-in-Error.result (error_put _ _ _ _) c.put-in-Error.ensures.ok)

pub returns-in-Error-clause-front : goal.returns-in-Error-clause-front
returns-in-Error-clause-front g c = rw c.in-Error.is (on_err_weaker c.put-in-Error.result (error_front _ _ _ _) c.put-in-Error.ensures.err)
