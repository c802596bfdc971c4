use Rattle.elf_descriptor.proofs.EditSteps.{ehdr_stepped}
use Rattle.elf_descriptor.proofs.body.Body.set_ehdr.Goals as goal

pub returns : goal.returns
returns c = ehdr_stepped c.args.self.now c.args.h.now _ c.stored_ehdr-self.ensures
