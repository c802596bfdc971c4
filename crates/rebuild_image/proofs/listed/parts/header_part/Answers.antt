use Rattle.elf_update_plan.proofs.PartLaws.{header_part_is}
use Rattle.rebuild_image.proofs.listed.parts.header_part.Goals as goal

pub returns : goal.returns
returns c = λ o is.
    header_part_is o c.args.x.now.header c.ehdr_size.result is.header c.ehdr_size.ensures
