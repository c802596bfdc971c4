use Rattle.elfkit_outcomes.proofs.tool_objects.ImageLemmas.{on_ok}
use Rattle.elfkit_edit.proofs.commands.calls.CallsToolFileTool.show.Goals as goal

pub returns-clause-asks : goal.returns-clause-asks
returns-clause-asks g c = on_ok _ _ c.show_calls_on.ensures.asks
