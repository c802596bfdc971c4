use Rattle.elf_update_plan.proofs.PartLaws.{segments_is}
use Rattle.rebuild_image.proofs.listed.PartLaws.{phnum_listed}
use Rattle.rebuild_image.proofs.listed.parts.segments_part.Goals as goal

pub returns : goal.returns
returns c = λ o object is.
    segments_is o c.args.x.now.header c.args.x.now.header.phnum c.phdr_size.result is.header
    (phnum_listed o c.args.x.now is) c.phdr_size.ensures object.phdr_count
