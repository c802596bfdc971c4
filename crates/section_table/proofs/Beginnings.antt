-- No sections, and those of an image.
use Rattle.std.proofs.Common.{◌≡◌, ℕ, ◌*◌, ◌<◌, ◌≤◌, ◌==◌, Bool, true, false, List, [], length, map, get_or, refl, sym, ap, ◌∙◌, subst, zero-add, arith}
use Rattle.std.specs.Prelude.{if◌then◌else◌, nat_lt}
use Rattle.std.specs.List.{range_with_len, enumerate_from}
use Rattle.std.proofs.lemmas.Bool.{ltb-true, ltb-false}
use Rattle.std.proofs.Math.ListN.{replicate}
use Rattle.std.proofs.lemmas.List.Folds.{sum_by-replicate}
use Rattle.std.proofs.lemmas.List.{length-map, length-replicate, get_or_past, get_or-map, get_or-replicate}
use Rattle.std.proofs.lemmas.List.FromFn.{fill_by_all, length-enumerate_from, get_or-enumerate_from}
use Rattle.elf_types.specs.declared.constants.TheConstants.{MAX_SECTIONS}
use Rattle.elf_types.specs.declared.records.Shdr.{Shdr}
use Rattle.section_data.specs.elf_ident.Front.{zero_shdr}
use Rattle.section_data.specs.elf_object.Open.{home_of}
use Rattle.section_data.specs.Views.{CellView, opened_cell}
use Rattle.section_table.specs.Sections.{SectionView, absent_scn, section_in, opened_scn, opened_scns, reopened_scn, AreNumbered, cell_by, section_by, sections_view, unmade, IsSections}

-- ---- No sections, and those of an image

pub no_sections : (room : ℕ) → IsSections [] [] [] [] room
no_sections room = record {
  few = omega arith;
  each_mark = refl;
  each_slot = refl;
  within = λ s. omega arith;
  apart = λ s t other same. refl;
  made = refl;
  fits = omega arith;
}

-- no cell was made
abbrev no_slots : ℕ → List ℕ
no_slots n = replicate n 0

unmade_all : (n : ℕ) → unmade (no_slots n) ≡ n
unmade_all n =
    let one : n * 1 ≡ n = omega arith in
    sum_by-replicate (λ (slot : ℕ). if slot == 0 then 1 else 0) n 0 ∙ one

slot_none : (n s : ℕ) → get_or (no_slots n) s 0 ≡ 0
slot_none n s = by_place (nat_lt s n) refl
  where
    by_place : (b : Bool) → nat_lt s n ≡ b → get_or (no_slots n) s 0 ≡ 0
    by_place true e = get_or-replicate n s 0 0 (ltb-true s n e)
    by_place false e =
        let long = length-replicate {A = ℕ} n 0 in
        let past = ltb-false s n e in
        get_or_past (no_slots n) s 0 (omega (arith, long, past))

pub none_made : (headers : List Shdr) (marks : List Bool) (slots : List ℕ) (cells : List CellView)
    (room : ℕ) → length headers ≤ MAX_SECTIONS → marks ≡ replicate (length headers) false
    → slots ≡ replicate (length headers) 0 → cells ≡ [] → length headers ≤ room
    → IsSections headers marks slots cells room
none_made headers marks slots cells room few marks_are slots_are none fits =
    subst (λ (l : List ℕ). IsSections headers marks l cells room) (sym slots_are)
    (subst (λ (l : List CellView). IsSections headers marks (no_slots (length headers)) l room)
    (sym none)
    (record {
      few = few;
      each_mark = ap length marks_are ∙ length-replicate (length headers) false;
      each_slot = length-replicate (length headers) 0;
      within = λ s. let is = slot_none (length headers) s in omega (arith, is);
      apart = λ s t other same. slot_none (length headers) s;
      made = let all = unmade_all (length headers) in omega (arith, all);
      fits = fits;
    }))

mark_none : (n s : ℕ) → get_or (replicate n false) s false ≡ false
mark_none n s = by_place (nat_lt s n) refl
  where
    by_place : (b : Bool) → nat_lt s n ≡ b → get_or (replicate n false) s false ≡ false
    by_place true e = get_or-replicate n s false false (ltb-true s n e)
    by_place false e =
        let long = length-replicate n false in
        let past = ltb-false s n e in
        get_or_past (replicate n false) s false (omega (arith, long, past))

-- the section of that number where there is no cell and no mark
abbrev unmade_at : ℕ → List Shdr → List CellView → ℕ → SectionView
unmade_at size headers cells s =
    section_by size headers (replicate (length headers) false) (no_slots (length headers)) cells s

section_unmade : (size : ℕ) (headers : List Shdr) (cells : List CellView) (s : ℕ)
    → unmade_at size headers cells s ≡ opened_scn size (s, get_or headers s zero_shdr)
section_unmade size headers cells s =
    ap (λ (n : ℕ). record {
      header = get_or headers s zero_shdr;
      cell = cell_by size s (get_or headers s zero_shdr) cells n;
      marked = get_or (replicate (length headers) false) s false;
    }) (slot_none (length headers) s)
    ∙ ap (λ (m : Bool). record {
      header = get_or headers s zero_shdr;
      cell = opened_cell s (home_of size (get_or headers s zero_shdr));
      marked = m;
    }) (mark_none (length headers) s)

-- the sections are these
view_unmade : (size : ℕ) (headers : List Shdr) (marks : List Bool) (slots : List ℕ)
    (cells : List CellView) → marks ≡ replicate (length headers) false
    → slots ≡ replicate (length headers) 0
    → sections_view size headers marks slots cells
    ≡ map (unmade_at size headers cells) (range_with_len 0 (length headers))
unfolding sections_view
view_unmade size headers marks slots cells marks_are slots_are =
    let numbers = range_with_len 0 (length headers) in
    let clear = replicate (length headers) false in
    ap (λ (l : List Bool). map (section_by size headers l slots cells) numbers) marks_are
    ∙ ap (λ (l : List ℕ). map (section_by size headers clear l cells) numbers) slots_are

pub view_opened : (size : ℕ) (headers : List Shdr) (marks : List Bool) (slots : List ℕ)
    (cells : List CellView) → marks ≡ replicate (length headers) false
    → slots ≡ replicate (length headers) 0
    → sections_view size headers marks slots cells ≡ opened_scns size headers
unfolding opened_scns
view_opened size headers marks slots cells marks_are slots_are =
    view_unmade size headers marks slots cells marks_are slots_are
    ∙ sym (fill_by_all (unmade_at size headers cells)
    (map (opened_scn size) (enumerate_from 0 headers)) (length headers) absent_scn
    (length-map (enumerate_from 0 headers) (opened_scn size) ∙ length-enumerate_from 0 headers)
    (λ k below.
    get_or-map (opened_scn size) (enumerate_from 0 headers) k (0, zero_shdr) absent_scn
    (let long = length-enumerate_from 0 headers in omega (arith, long, below))
    ∙ ap (opened_scn size) (get_or-enumerate_from 0 headers k (0, zero_shdr) below)
    ∙ ap (λ (n : ℕ). opened_scn size (n, get_or headers k zero_shdr)) (zero-add k)
    ∙ sym (section_unmade size headers cells k)))

-- after what was written is what was read
pub view_reopened : (size : ℕ) (headers : List Shdr) (marks : List Bool) (slots : List ℕ)
    (cells : List CellView) (old : List SectionView) → marks ≡ replicate (length headers) false
    → slots ≡ replicate (length headers) 0 → length old ≡ length headers → AreNumbered old
    → ((s : ℕ) → s < length headers → (section_in old s).header ≡ get_or headers s zero_shdr)
    → sections_view size headers marks slots cells ≡ map (reopened_scn size) old
view_reopened size headers marks slots cells old marks_are slots_are long numbered same =
    view_unmade size headers marks slots cells marks_are slots_are
    ∙ sym (fill_by_all (unmade_at size headers cells)
    (map (reopened_scn size) old) (length headers) absent_scn
    (length-map old (reopened_scn size) ∙ long)
    (λ k below.
    let within : k < length old = omega (arith, long, below) in
    get_or-map (reopened_scn size) old k absent_scn absent_scn within
    ∙ ap (λ (n : ℕ). record (get_or old k absent_scn) {
      cell = opened_cell n (home_of size (get_or old k absent_scn).header);
      marked = false;
    }) (numbered k within)
    ∙ ap (λ (h : Shdr). record {
      header = h;
      cell = opened_cell k (home_of size h);
      marked = false;
    }) (same k below)
    ∙ sym (section_unmade size headers cells k)))

-- ---- The same lists

-- with more room too
pub same_sections_in : (headers headers_new : List Shdr) (marks marks_new : List Bool)
    (slots slots_new : List ℕ) (cells cells_new : List CellView) (room room_new : ℕ)
    → headers_new ≡ headers → marks_new ≡ marks → slots_new ≡ slots → cells_new ≡ cells
    → room ≤ room_new → IsSections headers marks slots cells room
    → IsSections headers_new marks_new slots_new cells_new room_new
same_sections_in headers headers_new marks marks_new slots slots_new cells cells_new room room_new
    of_headers of_marks of_slots of_cells larger is =
    subst (λ (l : List Shdr). IsSections l marks_new slots_new cells_new room_new) (sym of_headers)
    (subst (λ (l : List Bool). IsSections headers l slots_new cells_new room_new) (sym of_marks)
    (subst (λ (l : List ℕ). IsSections headers marks l cells_new room_new) (sym of_slots)
    (subst (λ (l : List CellView). IsSections headers marks slots l room_new) (sym of_cells)
    (let fits = is.fits in record {
      few = is.few;
      each_mark = is.each_mark;
      each_slot = is.each_slot;
      within = is.within;
      apart = is.apart;
      made = is.made;
      fits = omega (arith, fits, larger);
    }))))

-- and what contracts see is the same
pub same_view : (size : ℕ) (headers headers_new : List Shdr) (marks marks_new : List Bool)
    (slots slots_new : List ℕ) (cells cells_new : List CellView)
    → headers_new ≡ headers → marks_new ≡ marks → slots_new ≡ slots → cells_new ≡ cells
    → sections_view size headers_new marks_new slots_new cells_new
    ≡ sections_view size headers marks slots cells
same_view size headers headers_new marks marks_new slots slots_new cells cells_new
    of_headers of_marks of_slots of_cells =
    ap (λ (l : List Shdr). sections_view size l marks_new slots_new cells_new) of_headers
    ∙ ap (λ (l : List Bool). sections_view size headers l slots_new cells_new) of_marks
    ∙ ap (λ (l : List ℕ). sections_view size headers marks l cells_new) of_slots
    ∙ ap (λ (l : List CellView). sections_view size headers marks slots l) of_cells

-- ---- What is begun

pub none_seen : (size : ℕ) → sections_view size [] [] [] [] ≡ []
unfolding sections_view
none_seen size = refl

module _ (size room n : ℕ) (headers : List Shdr) (marks : List Bool) (slots : List ℕ)
    (cells : List CellView) (count : n ≡ length headers) (marks_are : marks ≡ replicate n false)
    (slots_are : slots ≡ no_slots n) where
  pub begun_sections : length headers ≤ MAX_SECTIONS → cells ≡ [] → n ≤ room
      → IsSections headers marks slots cells room
  begun_sections few none fits =
      none_made headers marks slots cells room few
      (marks_are ∙ ap (λ (m : ℕ). replicate m false) count) (slots_are ∙ ap no_slots count)
      none (omega (arith, fits, count))

  pub begun_view : (given : List Shdr) → headers ≡ given
      → sections_view size headers marks slots cells ≡ opened_scns size given
  begun_view given same =
      view_opened size headers marks slots cells
      (marks_are ∙ ap (λ (m : ℕ). replicate m false) count) (slots_are ∙ ap no_slots count)
      ∙ ap (opened_scns size) same
