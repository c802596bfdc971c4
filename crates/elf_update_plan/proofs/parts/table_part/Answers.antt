use Rattle.elf_update_plan.proofs.RowLaws.{ok_is}
use Rattle.elf_update_plan.proofs.PartLaws.{table_part_is}
use Rattle.elf_update_plan.proofs.parts.table_part.Goals as goal

pub returns : goal.returns
returns g c =
    table_part_is c.args.elf.now.o c.ehdr-header.result c.shnum.result c.shdr_size.result
    c.table_alignment.result (ok_is _ _ c.ehdr-header.ensures)
    (ok_is _ _ c.shnum.ensures) c.shdr_size.ensures c.table_alignment.ensures c.requires.section_count
