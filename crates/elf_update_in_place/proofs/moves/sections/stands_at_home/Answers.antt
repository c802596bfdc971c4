use Rattle.elf_update_in_place.proofs.moves.SectionLaws.{at_home_is, place_there, place_read}
use Rattle.elf_update_in_place.proofs.moves.sections.stands_at_home.Goals as goal

pub bounds-as_slice-s : goal.bounds-as_slice-s
bounds-as_slice-s g c =
    place_there c.args.elf.now.o c.args.s c.as_slice.result.now c.args.planned.now.places
    c.as_slice.ensures c.requires.planned.places c.requires.there

pub returns : goal.returns
returns g c =
    at_home_is c.args.elf.now.o c.args.s _ c.file_length.result c.home_extent-home.result.0
    c.home_extent-home.result.1 c.is_same_extent.result c.requires.planned.ready c.requires.there
    c.requires.filled
    (place_read c.args.elf.now.o c.args.s c.as_slice.result.now c.args.planned.now.places _
    c.as_slice.ensures c.requires.planned.places
    (place_there c.args.elf.now.o c.args.s c.as_slice.result.now c.args.planned.now.places
    c.as_slice.ensures c.requires.planned.places c.requires.there))
    c.file_length.ensures c.home_extent-home.ensures.place c.home_extent-home.ensures.len
    c.is_same_extent.ensures
