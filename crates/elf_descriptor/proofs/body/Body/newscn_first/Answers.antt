use Rattle.elf_descriptor.proofs.EditGrows.{left_alone}
use Rattle.elf_descriptor.proofs.body.Body.newscn_first.Goals as goal

pub returns-in-Err-clause-unchanged : goal.returns-in-Err-clause-unchanged
returns-in-Err-clause-unchanged c = left_alone c.args.self.now c.begin_sections.new.self c.in-Err.ensures.unchanged
