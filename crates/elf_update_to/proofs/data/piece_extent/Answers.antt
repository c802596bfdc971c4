use Rattle.elf_update_to.proofs.DataLaws.{extent_is, align_is}
use Rattle.elf_update_to.proofs.data.piece_extent.Goals as goal

pub returns : goal.returns
returns g c =
    extent_is c.args.elf.now.o c.args.d.section c.args.d.piece c.in-Ok.align c.piece_length.result
    (record { filled = c.requires.filled; section = c.requires.section; piece = c.requires.piece })
    (align_is c.args.elf.now.o c.args.d.section c.args.d.piece c.in-Ok.align c.in-Ok.ensures) c.piece_length.ensures
