use Rattle.tool_objects.proofs.ImageLemmas.{on_ok}
use Rattle.elfkit_read.proofs.commands.strings.StringsToolFileTool.show.Goals as goal

pub returns-clause-asks : goal.returns-clause-asks
returns-clause-asks g c = on_ok _ _ c.show_strings-shown.ensures.asks
