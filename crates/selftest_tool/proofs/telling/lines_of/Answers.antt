use Rattle.elfkit_outcomes.proofs.tool_objects.SectionLemmas.{ok_value_is}
use Rattle.selftest_tool.proofs.telling.lines_of.Goals as goal

pub returns-clause-sections : goal.returns-clause-sections
returns-clause-sections g c = ok_value_is _ _ c.shnum.ensures
