use Rattle.elf_update_plan.proofs.RowLaws.{ok_is}
use Rattle.elf_update_to.proofs.DescriptorLaws.{header_len}
use Rattle.elf_update_to.proofs.descriptors.header_length.Goals as goal

pub returns : goal.returns
returns g c =
    header_len c.args.elf.now.o c.ehdr.result c.ehdr_size.result c.requires.ready.object
    (ok_is _ _ c.ehdr.ensures) c.ehdr_size.ensures
