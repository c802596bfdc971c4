use Rattle.std.proofs.Common.{◌∙◌, ap}
use Rattle.elf_types.specs.declared.records.Shdr.{Shdr}
use Rattle.rebuild_model.specs.elf_object.Calls.{update_shdr_refusal}
use Rattle.rebuild_model.specs.elf_object.Calls as calls
use Rattle.elf_update_plan.specs.elf_descriptor.Edits.{stepped}
use Rattle.rebuild_making.proofs.StoreLaws.{never_refused, shdr_passes}
use Rattle.rebuild_making.proofs.places.store_place.Goals as goal

pub returns : goal.returns
returns g c =
    c.in-Ok.ensures.state
    ∙ ap (λ (x : Shdr). stepped (calls.update_shdr c.args.s.0 (record x {
      offset = c.args.place;
    })) c.args.elf.now) c.section_header.ensures

pub unreachable-requires : goal.unreachable-requires
unreachable-requires g c =
    let o = c.args.elf.now.o in
    never_refused
    (update_shdr_refusal o c.args.s.0 (record c.section_header.result { offset = c.args.place }))
    tt _
    (ap (λ (x : Shdr). update_shdr_refusal o c.args.s.0 (record x { offset = c.args.place }))
    c.section_header.ensures
    ∙ shdr_passes o c.args.s.0 c.args.place c.is_out_of_file-sound.ensures.sound.object
    c.requires.first c.requires.there c.requires.fits) c.in-Err.ensures.answer
