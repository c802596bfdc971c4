use Rattle.std.proofs.Common.{◌∙◌, ap, ◌<◌, length, rules, sym}
use Rattle.elf_layout.specs.Extents.{first_close}
use Rattle.elf_layout.proofs.FirstMet.{overlap_named, overlap_none}
use Rattle.elf_layout.proofs.meeting.overlap.Goals as goal

pub returns-in_default-clause-ok : goal.returns-in_default-clause-ok
returns-in_default-clause-ok c =
    overlap_none _ _ c.in_ok-extents.ensures.ok (c.in_default.ensures ∙ ap first_close c.deref.ensures.value)

pub offset_bounds-parts-a : goal.offset_bounds-parts-a
offset_bounds-parts-a c =
    let names = overlap_named _ _ _ _ c.in_ok-extents.ensures.ok (c.in-Some.ensures ∙ ap first_close c.deref.ensures.value) in
    let inside : c.in-Some.a < length c.args.parts.now = names.first_inside in search rules

pub bounds-parts-a : goal.bounds-parts-a
bounds-parts-a c =
    (overlap_named _ _ _ _ c.in_ok-extents.ensures.ok (c.in-Some.ensures ∙ ap first_close c.deref.ensures.value)).first_inside

pub offset_bounds-parts-b : goal.offset_bounds-parts-b
offset_bounds-parts-b c =
    let names = overlap_named _ _ _ _ c.in_ok-extents.ensures.ok (c.in-Some.ensures ∙ ap first_close c.deref.ensures.value) in
    let inside : c.in-Some.b < length c.args.parts.now = names.second_inside in search rules

pub bounds-parts-b : goal.bounds-parts-b
bounds-parts-b c =
    (overlap_named _ _ _ _ c.in_ok-extents.ensures.ok (c.in-Some.ensures ∙ ap first_close c.deref.ensures.value)).second_inside

pub returns-clause-ok : goal.returns-clause-ok
returns-clause-ok c =
    let names = overlap_named _ _ _ _ c.in_ok-extents.ensures.ok (c.in-Some.ensures ∙ ap first_close c.deref.ensures.value) in
    sym (names.named _)
