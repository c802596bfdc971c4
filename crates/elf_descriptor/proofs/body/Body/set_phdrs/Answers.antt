use Rattle.std.proofs.Common.{refl}
use Rattle.elf_descriptor.proofs.EditGrows.{phdrs_zeroed}
use Rattle.elf_descriptor.proofs.body.Body.set_phdrs.Goals as goal

pub returns : goal.returns
returns c = phdrs_zeroed c.args.self.now _ c.args.n c.args.phdrs c.requires refl
