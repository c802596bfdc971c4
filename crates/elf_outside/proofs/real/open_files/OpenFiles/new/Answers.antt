use Rattle.elf_outside.proofs.KnownLemmas.{knows_none}
use Rattle.elf_outside.proofs.real.open_files.OpenFiles.new.Goals as goal

pub returns-clause-known : goal.returns-clause-known
returns-clause-known c = λ inode. knows_none c.new-2.result.keys inode c.new-2.ensures.empty
