use Rattle.elf_outside.proofs.KnownLemmas.{knows_more}
use Rattle.elf_outside.proofs.real.open_files.OpenFiles.know.Goals as goal

pub returns-in-Ok-clause-known : goal.returns-in-Ok-clause-known
returns-in-Ok-clause-known c =
    knows_more c.args.self.now.known c.insert.new.self c.args.inode c.in-Ok.ensures.updates
