use Rattle.rebuild_image.proofs.listed.PartLaws.{section_listed}
use Rattle.rebuild_image.proofs.listed.parts.section_part.Goals as goal

pub returns : goal.returns
returns c = λ o is.
    section_listed o c.args.x.now c.args.s c.as_slice-headers.result.now
    c.as_slice-sizes.result.now _ _ c.part_of.result c.as_slice-headers.ensures
    c.as_slice-sizes.ensures c.requires.header c.part_of.ensures is
