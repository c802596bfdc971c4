use Rattle.std.proofs.Common.{ap}
use Rattle.rebuild_select.specs.elf_object.Sections.{number_or_0}
use Rattle.rebuild_numbers.proofs.numbering.Numbering.number_or_0.Goals as goal

pub returns-in-Some : goal.returns-in-Some
returns-in-Some c = ap number_or_0 c.in-Some.ensures.value

pub returns-in-None : goal.returns-in-None
returns-in-None c = ap number_or_0 c.in-None.ensures.value
