use Rattle.std.proofs.Common.{List, set, refl, ap, ◌∙◌, arith}
use Rattle.std.specs.Prelude.{vec_capacity}
use Rattle.std.proofs.lemmas.List.{get_or_read}
use Rattle.section_data.specs.Views.{new_cell}
use Rattle.section_table.specs.Sections.{SectionView, section_in}
use Rattle.section_table.proofs.Views.{seen_below, seen_made, view_lent}
use Rattle.section_table.proofs.CellsMade.{made_sections, made_view, made_slot, made_place, room_left, lent_sections}
use Rattle.section_table.proofs.sections.Sections.cell_mut.Goals as goal

pub make-place-requires-clause-header : goal.make-place-requires-clause-header
make-place-requires-clause-header c =
    let inside = c.self.inside in
    seen_below inside.form.size inside.headers inside.marks.items inside.slots.items
    inside.cells.items c.args.self.now c.self.view_is c.args.s c.requires

pub make-place-requires-clause-there : goal.make-place-requires-clause-there
make-place-requires-clause-there c =
    let inside = c.self.inside in
    let below =
    seen_below inside.form.size inside.headers inside.marks.items inside.slots.items
    inside.cells.items c.args.self.now c.self.view_is c.args.s c.requires in
    let count = c.self.invariant.each_slot in
    omega (arith, below, count)

pub make-place-requires-clause-room : goal.make-place-requires-clause-room
make-place-requires-clause-room c = λ none.
    let inside = c.self.inside in
    let below =
    seen_below inside.form.size inside.headers inside.marks.items inside.slots.items
    inside.cells.items c.args.self.now c.self.view_is c.args.s c.requires in
    (room_left inside.headers inside.marks.items inside.slots.items inside.cells.items
    (vec_capacity inside.cells) c.args.s c.self.invariant below none).0

pub make-place-requires-clause-few : goal.make-place-requires-clause-few
make-place-requires-clause-few c = λ none.
    let inside = c.self.inside in
    let below =
    seen_below inside.form.size inside.headers inside.marks.items inside.slots.items
    inside.cells.items c.args.self.now c.self.view_is c.args.s c.requires in
    (room_left inside.headers inside.marks.items inside.slots.items inside.cells.items
    (vec_capacity inside.cells) c.args.s c.self.invariant below none).1

pub index_mut-requires : goal.index_mut-requires
index_mut-requires c =
    let size = c.self.inside.form.size in
    let headers = c.self.inside.headers in
    let marks = c.self.inside.marks.items in
    let slots = c.self.inside.slots.items in
    let cells = c.self.inside.cells.items in
    let seen = c.self.view_is in
    let below =
    seen_below size headers marks slots cells c.args.self.now seen c.args.s c.requires in
    let slots_new = c.make-place.new.slots.items in
    let cells_new = c.make-place.new.cells.items in
    let place = c.make-place.result in
    let room = vec_capacity c.self.inside.cells in
    let room_new = vec_capacity c.make-place.new.cells in
    let is = c.self.invariant in
    let larger = c.make-place.ensures.room in
    let makes = c.make-place.ensures.makes in
    let within =
    made_place size c.args.s headers marks slots slots_new cells cells_new place room room_new
    below is larger makes in
    let long = c.make-place.new.cells.ok.0 in
    omega (arith, within, long)

pub invariant_of-self-lent : goal.invariant_of-self-lent
invariant_of-self-lent c = λ left.
    let size = c.self.inside.form.size in
    let headers = c.self.inside.headers in
    let marks = c.self.inside.marks.items in
    let slots = c.self.inside.slots.items in
    let cells = c.self.inside.cells.items in
    let seen = c.self.view_is in
    let below =
    seen_below size headers marks slots cells c.args.self.now seen c.args.s c.requires in
    let slots_new = c.make-place.new.slots.items in
    let cells_new = c.make-place.new.cells.items in
    let place = c.make-place.result in
    let room = vec_capacity c.self.inside.cells in
    let room_new = vec_capacity c.make-place.new.cells in
    let is = c.self.invariant in
    let larger = c.make-place.ensures.room in
    let makes = c.make-place.ensures.makes in
    lent_sections headers marks slots_new cells_new room_new place left
    (made_sections size c.args.s headers marks slots slots_new cells cells_new place room room_new
    below is larger makes)

pub returns : goal.returns
returns c =
    let size = c.self.inside.form.size in
    let headers = c.self.inside.headers in
    let marks = c.self.inside.marks.items in
    let slots = c.self.inside.slots.items in
    let cells = c.self.inside.cells.items in
    let seen = c.self.view_is in
    let below =
    seen_below size headers marks slots cells c.args.self.now seen c.args.s c.requires in
    let slots_new = c.make-place.new.slots.items in
    let cells_new = c.make-place.new.cells.items in
    let place = c.make-place.result in
    let room = vec_capacity c.self.inside.cells in
    let room_new = vec_capacity c.make-place.new.cells in
    let is = c.self.invariant in
    let larger = c.make-place.ensures.room in
    let makes = c.make-place.ensures.makes in
    let seen_new =
    made_view size c.args.s headers marks slots slots_new cells cells_new place room room_new
    below is larger makes
    ∙ seen in
    let slot =
    made_slot size c.args.s headers marks slots slots_new cells cells_new place room room_new
    below is larger makes in
    let within =
    made_place size c.args.s headers marks slots slots_new cells cells_new place room room_new
    below is larger makes in
    let still =
    made_sections size c.args.s headers marks slots slots_new cells cells_new place room room_new
    below is larger makes in (
      (
        refl,
        λ left.
            view_lent size headers marks slots_new cells_new c.args.s place room_new left still
            below slot within
            ∙ ap (λ (l : List SectionView).
            set l c.args.s (record (section_in l c.args.s) { cell = left })) seen_new,
      ),
      record {
        lends = tt;
        value =
            get_or_read cells_new place c.index_mut.result.now within c.index_mut.ensures.value
            (new_cell 0)
            ∙ seen_made size headers marks slots_new cells_new c.args.self.now seen_new c.args.s
            c.requires place slot;
      },
    )
