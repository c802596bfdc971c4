use Rattle.std.proofs.Common.{length}
use Rattle.elf_update_plan.proofs.RowLaws.{ok_is}
use Rattle.elf_update_to.proofs.FrontLaws.{written_size, written_may, header_put}
use Rattle.elf_update_to.proofs.fronts.put_header.Goals as goal

pub put_ehdr-requires-clause-size : goal.put_ehdr-requires-clause-size
put_ehdr-requires-clause-size g c =
    written_size c.args.elf.now.o c.ehdr.result c.written_header.result (length c.args.out.now)
    (ok_is _ _ c.ehdr.ensures) c.written_header.ensures.value c.requires.room

pub put_ehdr-requires-clause-fits : goal.put_ehdr-requires-clause-fits
put_ehdr-requires-clause-fits g c =
    written_may c.args.elf.now.o c.ehdr.result c.written_header.result
    c.requires.stored.ready.object (ok_is _ _ c.ehdr.ensures) c.written_header.ensures.value

pub returns : goal.returns
returns g c =
    header_put c.args.elf.now.o c.ehdr.result c.written_header.result c.pad.result
    c.put_ehdr.new.out c.requires.stored.ready.object (ok_is _ _ c.ehdr.ensures)
    c.written_header.ensures.value c.pad.ensures c.put_ehdr.ensures
