use Rattle.elf_descriptor.proofs.Keeping.{so_same}
use Rattle.elf_descriptor.proofs.body.Body.note_end.Goals as goal

pub returns-in-Err : goal.returns-in-Err
returns-in-Err c = so_same c.args.self.now c.args.s
