use Rattle.rebuild_model.specs.elf_object.Calls.{update_ehdr_refusal}
use Rattle.rebuild_making.proofs.StoreLaws.{never_refused, ehdr_passes, table_put}
use Rattle.rebuild_making.proofs.places.store_table_place.Goals as goal

pub returns : goal.returns
returns g c =
    table_put c.args.elf.now c.update_ehdr.new.self c.args.place c.ehdr.result c.ehdr.ensures
    c.in-Ok.ensures.state

pub unreachable-requires : goal.unreachable-requires
unreachable-requires g c =
    let o = c.args.elf.now.o in
    never_refused (update_ehdr_refusal o (record c.ehdr.result { shoff = c.args.place })) tt _
    (ehdr_passes o c.args.place c.ehdr.result c.is_out_of_file-sound.ensures.sound.object
    c.requires.index c.requires.fits c.ehdr.ensures) c.in-Err.ensures.answer
