use Rattle.std.proofs.Common.{◌≡◌, ◌+◌, ℕ, Bool, true, List, [], ◌∷◌, ◌++◌, length, ap, ◌∙◌, arith}
use Rattle.std.specs.Prelude.{vec_capacity}
use Rattle.section_data.specs.elf_ident.Front.{zero_shdr}
use Rattle.section_data.specs.Views.{CellView, new_cell}
use Rattle.section_table.specs.Sections.{SectionView}
use Rattle.section_table.proofs.Views.{view_length}
use Rattle.section_table.proofs.Beginnings.{same_sections_in, same_view}
use Rattle.section_table.proofs.Growing.{grown_sections, grown_view}
use Rattle.section_table.proofs.sections.Sections.push_new.Goals as goal

pub add_header-requires-clause-few : goal.add_header-requires-clause-few
add_header-requires-clause-few c =
    let inside = c.self.inside in
    let long =
    view_length inside.form.size inside.headers inside.marks.items inside.slots.items
    inside.cells.items in
    let seen = ap (λ (l : List SectionView). length l) c.self.view_is in
    omega (arith, long, seen, c.requires)

pub add_header-requires-clause-made : goal.add_header-requires-clause-made
add_header-requires-clause-made c =
    omega (arith, c.self.invariant.made, c.self.inside.cells.ok.0)

pub invariant_of-self : goal.invariant_of-self
invariant_of-self c =
    let inside = c.self.inside in
    let new = c.add_header.new in
    let same = c.in-Err.ensures in
    same_sections_in inside.headers new.headers inside.marks.items new.marks.items
    inside.slots.items new.slots.items inside.cells.items new.cells.items
    (vec_capacity inside.cells) (vec_capacity new.cells)
    same.unchanged same.marks same.slots same.cells same.room c.self.invariant

pub returns-in-Err-clause-unchanged : goal.returns-in-Err-clause-unchanged
returns-in-Err-clause-unchanged c =
    let inside = c.self.inside in
    let new = c.add_header.new in
    let same = c.in-Err.ensures in
    same_view inside.form.size inside.headers new.headers inside.marks.items
    new.marks.items inside.slots.items new.slots.items inside.cells.items new.cells.items
    same.unchanged same.marks same.slots same.cells
    ∙ c.self.view_is

pub invariant_of-self-2 : goal.invariant_of-self-2
unfolding zero_shdr
invariant_of-self-2 c =
    let size = c.self.inside.form.size in
    let headers = c.self.inside.headers in
    let marks = c.self.inside.marks.items in
    let slots = c.self.inside.slots.items in
    let cells = c.self.inside.cells.items in
    let place = c.len-place.result in
    let cell = c.fresh-cell.result in
    let kept = c.in_default.ensures in
    let long = view_length size headers marks slots cells in
    let seen = ap (λ (l : List SectionView). length l) c.self.view_is in
    let room = kept.ok in
    let more = c.put_last.ensures.room in
    grown_sections size (vec_capacity c.self.inside.cells) (vec_capacity c.put_last.new.list) place
    headers c.add_header.new.headers marks c.put_last-3.new.list.items
    slots c.put_last-2.new.list.items cells c.put_last.new.list.items
    zero_shdr true cell kept.headers
    (c.put_last-3.ensures.items ∙ ap (λ (l : List Bool). l ++ true ∷ []) kept.marks)
    (c.put_last-2.ensures.items ∙ ap (λ (l : List ℕ). l ++ (place + 1) ∷ []) kept.slots)
    (c.put_last.ensures.items ∙ ap (λ (l : List CellView). l ++ cell ∷ []) kept.cells)
    (c.len-place.ensures
    ∙ c.add_header.new.cells.ok.0
    ∙ ap (λ (l : List CellView). length l) kept.cells)
    c.self.invariant
    (omega (arith, long, seen, c.requires)) (omega (arith, room.3, more))

pub returns-clause-ok : goal.returns-clause-ok
unfolding zero_shdr
returns-clause-ok c =
    let size = c.self.inside.form.size in
    let headers = c.self.inside.headers in
    let marks = c.self.inside.marks.items in
    let slots = c.self.inside.slots.items in
    let cells = c.self.inside.cells.items in
    let place = c.len-place.result in
    let cell = c.fresh-cell.result in
    let kept = c.in_default.ensures in
    let long = view_length size headers marks slots cells in
    let seen = ap (λ (l : List SectionView). length l) c.self.view_is in
    let number : c.len-number.result ≡ length c.args.self.now =
    omega (arith, c.len-number.ensures, long, seen) in
    grown_view size (vec_capacity c.self.inside.cells) (vec_capacity c.put_last.new.list) place
    headers c.add_header.new.headers marks c.put_last-3.new.list.items
    slots c.put_last-2.new.list.items cells c.put_last.new.list.items
    zero_shdr true cell kept.headers
    (c.put_last-3.ensures.items ∙ ap (λ (l : List Bool). l ++ true ∷ []) kept.marks)
    (c.put_last-2.ensures.items ∙ ap (λ (l : List ℕ). l ++ (place + 1) ∷ []) kept.slots)
    (c.put_last.ensures.items ∙ ap (λ (l : List CellView). l ++ cell ∷ []) kept.cells)
    (c.len-place.ensures
    ∙ c.add_header.new.cells.ok.0
    ∙ ap (λ (l : List CellView). length l) kept.cells)
    c.self.invariant
    ∙ ap (λ (l : List SectionView).
    l ++ record { header = zero_shdr; cell = cell; marked = true } ∷ []) c.self.view_is
    ∙ ap (λ (d : CellView).
    c.args.self.now ++ record { header = zero_shdr; cell = d; marked = true } ∷ [])
    (c.fresh-cell.ensures.value ∙ ap new_cell number)
