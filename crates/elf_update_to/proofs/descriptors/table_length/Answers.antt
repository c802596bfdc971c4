use Rattle.elf_update_plan.proofs.RowLaws.{ok_is}
use Rattle.elf_update_to.proofs.DescriptorLaws.{table_len}
use Rattle.elf_update_to.proofs.descriptors.table_length.Goals as goal

pub returns : goal.returns
returns g c =
    table_len c.args.elf.now.o c.ehdr.result c.shnum.result c.shdr_size.result
    (ok_is _ _ c.ehdr.ensures) (ok_is _ _ c.shnum.ensures) c.shdr_size.ensures
