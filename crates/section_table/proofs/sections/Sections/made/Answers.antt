use Rattle.std.proofs.Common.{◌-◌, ◌∙◌, arith}
use Rattle.std.proofs.lemmas.List.{get_or_read}
use Rattle.section_data.specs.Views.{new_cell}
use Rattle.section_table.proofs.Views.{seen_below, seen_unread, seen_made, slot_clear, slot_taken}
use Rattle.section_table.proofs.sections.Sections.made.Goals as goal

pub index-slot-requires : goal.index-slot-requires
index-slot-requires c =
    let inside = c.self.inside in
    let below =
    seen_below inside.form.size inside.headers inside.marks.items inside.slots.items
    inside.cells.items c.args.self.now c.self.view_is c.args.s c.requires in
    let count = c.self.invariant.each_slot in
    let long = inside.slots.ok.0 in
    omega (arith, below, count, long)

pub returns-then-slot-eq0-clause-none : goal.returns-then-slot-eq0-clause-none
returns-then-slot-eq0-clause-none c = λ none.
    let size = c.self.inside.form.size in
    let headers = c.self.inside.headers in
    let marks = c.self.inside.marks.items in
    let slots = c.self.inside.slots.items in
    let cells = c.self.inside.cells.items in
    let seen = c.self.view_is in
    let below =
    seen_below size headers marks slots cells c.args.self.now seen c.args.s c.requires in
    let count = c.self.invariant.each_slot in
    seen_unread size headers marks slots cells c.args.self.now seen c.args.s c.requires
    (slot_clear slots c.args.s c.index-slot.result.now (omega (arith, below, count))
    c.index-slot.ensures c.if-slot-eq0.true)

pub index-requires : goal.index-requires
index-requires c =
    let inside = c.self.inside in
    let below =
    seen_below inside.form.size inside.headers inside.marks.items inside.slots.items
    inside.cells.items c.args.self.now c.self.view_is c.args.s c.requires in
    let slots = inside.slots.items in
    let slot = c.index-slot.result.now in
    let count = c.self.invariant.each_slot in
    let taken =
    slot_taken slots c.args.s slot (omega (arith, below, count)) c.index-slot.ensures
    c.if-slot-eq0.false in
    let within = c.self.invariant.within c.args.s in
    let long = inside.cells.ok.0 in
    omega (arith, within, taken, long)

pub returns-clause-some : goal.returns-clause-some
returns-clause-some c =
    let size = c.self.inside.form.size in
    let headers = c.self.inside.headers in
    let marks = c.self.inside.marks.items in
    let slots = c.self.inside.slots.items in
    let cells = c.self.inside.cells.items in
    let seen = c.self.view_is in
    let below =
    seen_below size headers marks slots cells c.args.self.now seen c.args.s c.requires in
    let slot = c.index-slot.result.now in
    let count = c.self.invariant.each_slot in
    let taken =
    slot_taken slots c.args.s slot (omega (arith, below, count)) c.index-slot.ensures
    c.if-slot-eq0.false in
    let within = c.self.invariant.within c.args.s in
    get_or_read cells (slot - 1) c.index.result.now (omega (arith, within, taken)) c.index.ensures
    (new_cell 0)
    ∙ seen_made size headers marks slots cells c.args.self.now seen c.args.s c.requires (slot - 1)
    taken
