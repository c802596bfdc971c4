use Rattle.elf_layout.proofs.Capped.{capping_law}
use Rattle.elf_layout.proofs.capping.capping_law.Goals as goal

pub returns : goal.returns
returns c = capping_law
