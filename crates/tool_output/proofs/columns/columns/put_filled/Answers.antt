use Rattle.std.proofs.Common.{refl}
use Rattle.tool_output.proofs.columns.columns.put_filled.Goals as goal

pub returns-clause-ok : goal.returns-clause-ok
returns-clause-ok c = c.put_by.ensures.ok c.args.byte refl
