use Rattle.elf_update_to.proofs.FrontLaws.{section_row}
use Rattle.elf_update_to.proofs.fronts.SectionRowsWritableRows.put_row.Goals as goal

pub returns : goal.returns
returns g c =
    section_row c.args.self.now.elf.now.o c.args.i c.put_section.new.out c.requires.there
    c.put_section.ensures
