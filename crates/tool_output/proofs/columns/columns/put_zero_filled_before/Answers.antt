use Rattle.std.proofs.Common.{refl}
use Rattle.tool_output.specs.Columns.Columns.{zero_filled}
use Rattle.tool_output.proofs.columns.columns.put_zero_filled_before.Goals as goal

pub returns-clause-ok : goal.returns-clause-ok
unfolding zero_filled
returns-clause-ok c = c.put_both_by.ensures.ok 48 refl
