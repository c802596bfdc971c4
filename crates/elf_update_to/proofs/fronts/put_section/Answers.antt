use Rattle.std.proofs.Common.{length}
use Rattle.elf_update_plan.specs.elf_xlate.Headers.{shdr_size}
use Rattle.elf_update_plan.proofs.RowLaws.{ok_is}
use Rattle.elf_update_to.proofs.FrontLaws.{sized_by_header, section_fit, section_put}
use Rattle.elf_update_to.proofs.fronts.put_section.Goals as goal

pub put_shdr-requires-clause-size : goal.put_shdr-requires-clause-size
put_shdr-requires-clause-size g c =
    sized_by_header shdr_size c.args.elf.now.o c.ehdr-header.result (length c.args.out.now)
    (ok_is _ _ c.ehdr-header.ensures) c.requires.room

pub put_shdr-requires-clause-fits : goal.put_shdr-requires-clause-fits
put_shdr-requires-clause-fits g c =
    section_fit c.args.elf.now.o c.args.s c.ehdr-header.result c.section_header.result
    c.requires.stored.ready.object c.requires.there (ok_is _ _ c.ehdr-header.ensures)
    c.section_header.ensures

pub returns : goal.returns
returns g c =
    section_put c.args.elf.now.o c.args.s c.ehdr-header.result c.section_header.result
    c.put_shdr.new.out (ok_is _ _ c.ehdr-header.ensures) c.section_header.ensures
    c.put_shdr.ensures
