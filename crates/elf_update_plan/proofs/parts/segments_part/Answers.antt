use Rattle.elf_update_plan.proofs.RowLaws.{ok_is}
use Rattle.elf_update_plan.proofs.PartLaws.{segments_is}
use Rattle.elf_update_plan.proofs.parts.segments_part.Goals as goal

pub returns : goal.returns
returns g c =
    segments_is c.args.elf.now.o c.ehdr-header.result c.phnum.result c.phdr_size.result
    (ok_is _ _ c.ehdr-header.ensures) (ok_is _ _ c.phnum.ensures)
    c.phdr_size.ensures c.requires.phdr_count
