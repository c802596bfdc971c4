use Rattle.std.proofs.Common.{subst}
use Rattle.elf_types.specs.Lists.{AreBytes}
use Rattle.c_handles.proofs.lent.WriteLaws.{write_bytes_small}
use Rattle.c_handles.proofs.lent.image.LentImageSource.len.Goals as goal

pub returns-clause-ranged : goal.returns-clause-ranged
returns-clause-ranged c =
    write_bytes_small c.args.self.now.writes c.args.self.now.loan.bytes c.args.self.now.sound
    (subst AreBytes c.bytes.ensures c.know_bytes.ensures)
