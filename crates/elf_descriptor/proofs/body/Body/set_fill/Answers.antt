use Rattle.std.proofs.Common.{refl}
use Rattle.elf_descriptor.proofs.EditSteps.{fill_stepped}
use Rattle.elf_descriptor.proofs.body.Body.set_fill.Goals as goal

pub returns : goal.returns
returns c = fill_stepped c.args.self.now _ c.args.byte refl
