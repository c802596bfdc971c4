use Rattle.std.proofs.Common.{◌-◌, sym, ap, ◌∙◌, arith}
use Rattle.std.proofs.lemmas.List.{get_or_read}
use Rattle.elf_types.specs.declared.records.Shdr.{Shdr}
use Rattle.section_data.specs.elf_object.Open.{home_of}
use Rattle.section_data.specs.Views.{opened_cell, new_cell}
use Rattle.section_table.proofs.Views.{seen_below, seen_unmade, seen_made, slot_clear, slot_taken}
use Rattle.section_table.proofs.sections.Sections.at.Goals as goal

pub index-slot-requires : goal.index-slot-requires
index-slot-requires c =
    let inside = c.self.inside in
    let below =
    seen_below inside.form.size inside.headers inside.marks.items inside.slots.items
    inside.cells.items c.args.self.now c.self.view_is c.args.s c.requires in
    let count = c.self.invariant.each_slot in
    let long = inside.slots.ok.0 in
    omega (arith, below, count, long)

pub at-header-requires : goal.at-header-requires
at-header-requires c =
    let inside = c.self.inside in
    seen_below inside.form.size inside.headers inside.marks.items inside.slots.items
    inside.cells.items c.args.self.now c.self.view_is c.args.s c.requires

pub returns-then-slot-eq0 : goal.returns-then-slot-eq0
returns-then-slot-eq0 c =
    let size = c.self.inside.form.size in
    let headers = c.self.inside.headers in
    let marks = c.self.inside.marks.items in
    let slots = c.self.inside.slots.items in
    let cells = c.self.inside.cells.items in
    let seen = c.self.view_is in
    let below =
    seen_below size headers marks slots cells c.args.self.now seen c.args.s c.requires in
    let count = c.self.invariant.each_slot in
    let none =
    slot_clear slots c.args.s c.index-slot.result.now (omega (arith, below, count))
    c.index-slot.ensures c.if-slot-eq0.true in
    c.unread.ensures.value
    ∙ ap (λ (h : Shdr). opened_cell c.args.s (home_of size h)) c.at-header.ensures
    ∙ sym (seen_unmade size headers marks slots cells c.args.self.now seen c.args.s c.requires none)

pub index-requires : goal.index-requires
index-requires c =
    let inside = c.self.inside in
    let below =
    seen_below inside.form.size inside.headers inside.marks.items inside.slots.items
    inside.cells.items c.args.self.now c.self.view_is c.args.s c.requires in
    let slots = inside.slots.items in
    let slot = c.index-slot.result.now in
    let count = c.self.invariant.each_slot in
    let taken =
    slot_taken slots c.args.s slot (omega (arith, below, count)) c.index-slot.ensures
    c.if-slot-eq0.false in
    let within = c.self.invariant.within c.args.s in
    let long = inside.cells.ok.0 in
    omega (arith, within, taken, long)

pub returns : goal.returns
returns c =
    let size = c.self.inside.form.size in
    let headers = c.self.inside.headers in
    let marks = c.self.inside.marks.items in
    let slots = c.self.inside.slots.items in
    let cells = c.self.inside.cells.items in
    let seen = c.self.view_is in
    let below =
    seen_below size headers marks slots cells c.args.self.now seen c.args.s c.requires in
    let slot = c.index-slot.result.now in
    let count = c.self.invariant.each_slot in
    let taken =
    slot_taken slots c.args.s slot (omega (arith, below, count)) c.index-slot.ensures
    c.if-slot-eq0.false in
    let within = c.self.invariant.within c.args.s in
    get_or_read cells (slot - 1) c.index.result.now (omega (arith, within, taken)) c.index.ensures
    (new_cell 0)
    ∙ seen_made size headers marks slots cells c.args.self.now seen c.args.s c.requires (slot - 1)
    taken
