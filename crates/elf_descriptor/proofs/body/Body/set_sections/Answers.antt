use Rattle.elf_descriptor.proofs.EditSections.{sections_begun}
use Rattle.elf_descriptor.proofs.body.Body.set_sections.Goals as goal

pub returns : goal.returns
returns c = sections_begun c.args.self.now c.args.sections c.args.count c.requires.none c.requires.made
