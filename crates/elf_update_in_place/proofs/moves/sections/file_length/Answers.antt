use Rattle.elf_update_in_place.proofs.moves.SectionLaws.{length_is}
use Rattle.elf_update_in_place.proofs.moves.sections.file_length.Goals as goal

pub returns : goal.returns
returns g c =
    length_is c.args.elf.now.o c.args.s c.in-Ok.size c.requires.ready c.requires.there
    c.requires.filled c.in-Ok.ensures
