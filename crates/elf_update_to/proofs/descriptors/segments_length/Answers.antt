use Rattle.elf_update_plan.proofs.RowLaws.{ok_is}
use Rattle.elf_update_to.proofs.DescriptorLaws.{segments_len}
use Rattle.elf_update_to.proofs.descriptors.segments_length.Goals as goal

pub returns : goal.returns
returns g c =
    segments_len c.args.elf.now.o c.ehdr.result c.phnum.result c.phdr_size.result
    (ok_is _ _ c.ehdr.ensures) (ok_is _ _ c.phnum.ensures) c.phdr_size.ensures
