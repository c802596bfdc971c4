use Rattle.std.proofs.Common.{List, set, sym, ap, ◌∙◌, subst, arith}
use Rattle.std.specs.Prelude.{vec_capacity}
use Rattle.elf_types.specs.declared.records.Shdr.{Shdr}
use Rattle.section_table.specs.Sections.{SectionView, section_in, sections_view, IsSections}
use Rattle.section_table.proofs.Views.{seen_below, view_header}
use Rattle.section_table.proofs.CellsMade.{made_sections, made_view, made_slot, room_left, header_sections}
use Rattle.section_table.proofs.sections.Sections.set_header.Goals as goal

pub make-requires-clause-header : goal.make-requires-clause-header
make-requires-clause-header c =
    let inside = c.self.inside in
    seen_below inside.form.size inside.headers inside.marks.items inside.slots.items
    inside.cells.items c.args.self.now c.self.view_is c.args.s c.requires

pub make-requires-clause-there : goal.make-requires-clause-there
make-requires-clause-there c =
    let inside = c.self.inside in
    let below =
    seen_below inside.form.size inside.headers inside.marks.items inside.slots.items
    inside.cells.items c.args.self.now c.self.view_is c.args.s c.requires in
    let count = c.self.invariant.each_slot in
    omega (arith, below, count)

pub make-requires-clause-room : goal.make-requires-clause-room
make-requires-clause-room c = λ none.
    let inside = c.self.inside in
    let below =
    seen_below inside.form.size inside.headers inside.marks.items inside.slots.items
    inside.cells.items c.args.self.now c.self.view_is c.args.s c.requires in
    (room_left inside.headers inside.marks.items inside.slots.items inside.cells.items
    (vec_capacity inside.cells) c.args.s c.self.invariant below none).0

pub make-requires-clause-few : goal.make-requires-clause-few
make-requires-clause-few c = λ none.
    let inside = c.self.inside in
    let below =
    seen_below inside.form.size inside.headers inside.marks.items inside.slots.items
    inside.cells.items c.args.self.now c.self.view_is c.args.s c.requires in
    (room_left inside.headers inside.marks.items inside.slots.items inside.cells.items
    (vec_capacity inside.cells) c.args.s c.self.invariant below none).1

pub set-requires : goal.set-requires
set-requires c =
    let inside = c.self.inside in
    seen_below inside.form.size inside.headers inside.marks.items inside.slots.items
    inside.cells.items c.args.self.now c.self.view_is c.args.s c.requires

pub invariant_of-self : goal.invariant_of-self
invariant_of-self c =
    let size = c.self.inside.form.size in
    let headers = c.self.inside.headers in
    let marks = c.self.inside.marks.items in
    let slots = c.self.inside.slots.items in
    let cells = c.self.inside.cells.items in
    let seen = c.self.view_is in
    let below =
    seen_below size headers marks slots cells c.args.self.now seen c.args.s c.requires in
    let slots_new = c.make.new.slots.items in
    let cells_new = c.make.new.cells.items in
    let place = c.make.result in
    let room = vec_capacity c.self.inside.cells in
    let room_new = vec_capacity c.make.new.cells in
    let is = c.self.invariant in
    let larger = c.make.ensures.room in
    let makes = c.make.ensures.makes in
    subst (λ (l : List Shdr). IsSections l marks slots_new cells_new room_new)
    (sym c.set.ensures)
    (header_sections headers marks slots_new cells_new room_new c.args.s c.args.header
    (made_sections size c.args.s headers marks slots slots_new cells cells_new place room room_new
    below is larger makes))

pub returns : goal.returns
returns c =
    let size = c.self.inside.form.size in
    let headers = c.self.inside.headers in
    let marks = c.self.inside.marks.items in
    let slots = c.self.inside.slots.items in
    let cells = c.self.inside.cells.items in
    let seen = c.self.view_is in
    let below =
    seen_below size headers marks slots cells c.args.self.now seen c.args.s c.requires in
    let slots_new = c.make.new.slots.items in
    let cells_new = c.make.new.cells.items in
    let place = c.make.result in
    let room = vec_capacity c.self.inside.cells in
    let room_new = vec_capacity c.make.new.cells in
    let is = c.self.invariant in
    let larger = c.make.ensures.room in
    let makes = c.make.ensures.makes in
    let slot =
    made_slot size c.args.s headers marks slots slots_new cells cells_new place room room_new
    below is larger makes in
    let same =
    made_view size c.args.s headers marks slots slots_new cells cells_new place room room_new
    below is larger makes in
    ap (λ (l : List Shdr). sections_view size l marks slots_new cells_new) c.set.ensures
    ∙ view_header size headers marks slots_new cells_new c.args.s place c.args.header below slot
    ∙ ap (λ (l : List SectionView).
    set l c.args.s (record (section_in l c.args.s) { header = c.args.header })) (same ∙ seen)
