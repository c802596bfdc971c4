use Rattle.elf_update_plan.proofs.RowLaws.{ok_is}
use Rattle.elf_update_plan.proofs.PartLaws.{header_part_is}
use Rattle.elf_update_plan.proofs.parts.header_part.Goals as goal

pub returns : goal.returns
returns g c = header_part_is c.args.elf.now.o c.ehdr.result c.ehdr_size.result (ok_is _ _ c.ehdr.ensures) c.ehdr_size.ensures
