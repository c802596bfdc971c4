use Rattle.elf_update_plan.proofs.PartLaws.{table_part_is}
use Rattle.rebuild_image.proofs.listed.PartLaws.{shnum_listed}
use Rattle.rebuild_image.proofs.listed.parts.table_part.Goals as goal

pub returns : goal.returns
returns c = λ o object is.
    table_part_is o c.args.x.now.header c.args.x.now.header.shnum c.shdr_size.result
    c.table_alignment.result is.header (shnum_listed o c.args.x.now is) c.shdr_size.ensures
    c.table_alignment.ensures object.section_count
