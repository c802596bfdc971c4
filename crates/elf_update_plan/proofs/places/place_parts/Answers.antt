use Rattle.std.proofs.Common.{inr}
use Rattle.elf_update_plan.proofs.PlacingLaws.{contents_refused, passed_from, refused_from, wants_as, placed_ok, placed_err}
use Rattle.elf_descriptor.specs.elf_object.Refusal.{content_refusal}
use Rattle.elf_update_plan.proofs.places.place_parts.Goals as goal

pub returns-in-Err-clause-err : goal.returns-in-Err-clause-err
returns-in-Err-clause-err g c =
    let o = c.args.elf.now.o in
    inr (contents_refused o c.in-Err.e c.requires (refused_from (content_refusal o) c.in-Err.e c.in-Err.ensures))

pub returns-in-Ok-clause-ok : goal.returns-in-Ok-clause-ok
returns-in-Ok-clause-ok g c =
    let o = c.args.elf.now.o in
    placed_ok o c.requires (passed_from (content_refusal o) c.in_default.ensures)
    (c.parts_may_be_capped.ensures o c.dirty-dirty.ensures.sound.object)
    c.in-Ok.parts c.place_listed.result c.in-Ok.ensures.ok c.place_listed.ensures.ok c.place_listed.ensures.parts

pub returns-in-Ok-clause-err : goal.returns-in-Ok-clause-err
returns-in-Ok-clause-err g c =
    let o = c.args.elf.now.o in
    placed_err o c.requires (passed_from (content_refusal o) c.in_default.ensures)
    (c.parts_may_be_capped.ensures o c.dirty-dirty.ensures.sound.object)
    c.in-Ok.parts c.place_listed.result c.in-Ok.ensures.ok c.place_listed.ensures.err

pub returns-in-Err-list_parts-clause-err : goal.returns-in-Err-list_parts-clause-err
returns-in-Err-list_parts-clause-err g c =
    let o = c.args.elf.now.o in
    wants_as o c.in-Err-list_parts.e c.requires
    (passed_from (content_refusal o) c.in_default.ensures) c.in-Err-list_parts.ensures.err
