use Rattle.elf_update_to.proofs.FrontLaws.{header_row}
use Rattle.elf_update_to.proofs.fronts.HeaderRowWritableRows.put_row.Goals as goal

pub returns : goal.returns
returns g c =
    header_row c.args.self.now.elf.now.o c.args._i c.put_header.new.out
    c.requires.ready.ready.object c.requires.there c.put_header.ensures
