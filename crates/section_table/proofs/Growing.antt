-- One section more.
use Rattle.std.proofs.Common.{◌≡◌, ℕ, zero, suc, ◌+◌, ◌<◌, ◌≤◌, ◌==◌, Bool, true, false, List, [], ◌∷◌, ◌++◌, length, map, get_or, refl, sym, ap, ◌∙◌, subst, add-one, arith}
use Rattle.std.specs.Prelude.{if◌then◌else◌, nat_lt}
use Rattle.std.specs.List.{range_with_len}
use Rattle.std.proofs.lemmas.Bool.{ne_eqb, ltb-true, ltb-false}
use Rattle.std.proofs.lemmas.List.{length_push, get_or_append_left, get_or_push, get_or_past}
use Rattle.std.proofs.lemmas.List.FromFn.{map-range_with_len_more}
use Rattle.std.proofs.lemmas.List.Sums.{sum_by_push}
use Rattle.elf_types.specs.declared.constants.TheConstants.{MAX_SECTIONS}
use Rattle.elf_types.specs.declared.records.Shdr.{Shdr}
use Rattle.section_data.specs.elf_ident.Front.{zero_shdr}
use Rattle.section_data.specs.Views.{CellView, new_cell}
use Rattle.section_table.specs.Sections.{SectionView, cell_by, section_by, sections_view, IsSections}
use Rattle.section_table.proofs.Views.{listed_same}

-- ---- One section more

module _ (size room : ℕ) (headers : List Shdr) (marks : List Bool) (slots : List ℕ)
    (cells : List CellView) (h : Shdr) (m : Bool) (c : CellView) (room_new : ℕ)
    (is : IsSections headers marks slots cells room) where
  slots_old : (i : ℕ) → i < length headers
      → get_or (slots ++ (length cells + 1) ∷ []) i 0 ≡ get_or slots i 0
  slots_old i below =
      let count = is.each_slot in
      get_or_append_left slots ((length cells + 1) ∷ []) 0 i (omega (arith, count, below))

  slot_last : get_or (slots ++ (length cells + 1) ∷ []) (length headers) 0 ≡ length cells + 1
  slot_last = get_or_push slots (length cells + 1) 0 (length headers) is.each_slot

  -- a slot is old, or the new one, or there is none
  slot_of : (i : ℕ) (P : ℕ → Type 0) → (i < length headers → P (get_or slots i 0))
      → (i ≡ length headers → P (length cells + 1)) → (length headers < i → P 0)
      → P (get_or (slots ++ (length cells + 1) ∷ []) i 0)
  slot_of i P before last past =
      by_place (nat_lt i (length headers)) refl (nat_lt (length headers) i) refl
    where
      by_place : (a : Bool) → nat_lt i (length headers) ≡ a
          → (b : Bool) → nat_lt (length headers) i ≡ b
          → P (get_or (slots ++ (length cells + 1) ∷ []) i 0)
      by_place true e b f =
          let below = ltb-true i (length headers) e in
          subst P (sym (slots_old i below)) (before below)
      by_place false e true f =
          let above = ltb-true (length headers) i f in
          let long = length_push slots (length cells + 1) in
          let count = is.each_slot in
          subst P
          (sym (get_or_past (slots ++ (length cells + 1) ∷ []) i 0
          (omega (arith, long, count, above))))
          (past above)
      by_place false e false f =
          let from = ltb-false i (length headers) e in
          let to = ltb-false (length headers) i f in
          let same : i ≡ length headers = omega (arith, from, to) in
          subst P
          (sym (ap (λ (n : ℕ). get_or (slots ++ (length cells + 1) ∷ []) n 0) same ∙ slot_last))
          (last same)

  pub pushed_sections : length headers < MAX_SECTIONS → length headers + 1 ≤ room_new
      → IsSections (headers ++ h ∷ []) (marks ++ m ∷ []) (slots ++ (length cells + 1) ∷ [])
      (cells ++ c ∷ []) room_new
  pushed_sections few fits =
      let more = length_push headers h in
      let cells_more = length_push cells c in
      record {
        few = omega (arith, few, more);
        each_mark =
            let longer = length_push marks m in
            let count = is.each_mark in
            omega (arith, longer, count, more);
        each_slot =
            let longer = length_push slots (length cells + 1) in
            let count = is.each_slot in
            omega (arith, longer, count, more);
        within = λ i.
            slot_of i (λ n. n ≤ length (cells ++ c ∷ []))
            (λ below. let within = is.within i in omega (arith, within, cells_more))
            (λ last. omega (arith, cells_more))
            (λ past. omega arith);
        apart = λ i j other.
            slot_of i (λ a. a ≡ get_or (slots ++ (length cells + 1) ∷ []) j 0 → a ≡ 0)
            (λ below_i.
            slot_of j (λ b. get_or slots i 0 ≡ b → get_or slots i 0 ≡ 0)
            (λ below_j alike. is.apart i j other alike)
            (λ last_j alike. let within = is.within i in absurd (omega (arith, within, alike)))
            (λ past_j alike. alike))
            (λ last_i.
            slot_of j (λ b. length cells + 1 ≡ b → length cells + 1 ≡ 0)
            (λ below_j alike. let within = is.within j in absurd (omega (arith, within, alike)))
            (λ last_j alike. absurd (other (last_i ∙ sym last_j)))
            (λ past_j alike. alike))
            (λ past_i alike. refl);
        made =
            let slots_more =
            sum_by_push (λ (slot : ℕ). if slot == 0 then 1 else 0) slots (length cells + 1) in
            let none : ◌≡◌ {A = ℕ} (if length cells + 1 == 0 then 1 else 0) 0 =
            not_zero (length cells) in
            let made = is.made in
            omega (arith, slots_more, none, made, more, cells_more);
        fits = omega (arith, more, fits);
      }
    where
      not_zero : (n : ℕ) → ◌≡◌ {A = ℕ} (if n + 1 == 0 then 1 else 0) 0
      not_zero n = ap (λ (b : Bool). if b then 1 else 0) (ne_eqb (n + 1) 0 (λ e. omega (arith, e)))

  -- the section of that number where there is one more
  abbrev pushed_at : ℕ → SectionView
  pushed_at i =
      section_by size (headers ++ h ∷ []) (marks ++ m ∷ []) (slots ++ (length cells + 1) ∷ [])
      (cells ++ c ∷ []) i

  pub pushed_view : sections_view size (headers ++ h ∷ []) (marks ++ m ∷ [])
      (slots ++ (length cells + 1) ∷ []) (cells ++ c ∷ [])
      ≡ sections_view size headers marks slots cells
      ++ record { header = h; cell = c; marked = m } ∷ []
  unfolding sections_view
  pushed_view =
      let n = length headers in
      let old = section_by size headers marks slots cells in
      ap (λ (k : ℕ). map pushed_at (range_with_len 0 k)) (length_push headers h)
      ∙ map-range_with_len_more pushed_at 0 n n (omega arith)
      ∙ ap (λ (l : List SectionView). l ++ pushed_at n ∷ []) (listed_same old pushed_at n old_at)
      ∙ ap (λ (x : SectionView). map old (range_with_len 0 n) ++ x ∷ []) last_at
    where
      last_at : pushed_at (length headers) ≡ record { header = h; cell = c; marked = m }
      last_at =
          ap (λ (k : Shdr). record {
            header = k;
            cell =
                cell_by size (length headers) k (cells ++ c ∷ [])
                (get_or (slots ++ (length cells + 1) ∷ []) (length headers) 0);
            marked = get_or (marks ++ m ∷ []) (length headers) false;
          }) (get_or_push headers h zero_shdr (length headers) refl)
          ∙ ap (λ (n : ℕ). record {
            header = h;
            cell = cell_by size (length headers) h (cells ++ c ∷ []) n;
            marked = get_or (marks ++ m ∷ []) (length headers) false;
          }) (slot_last ∙ add-one (length cells))
          ∙ ap (λ (d : CellView). record {
            header = h;
            cell = d;
            marked = get_or (marks ++ m ∷ []) (length headers) false;
          }) (get_or_push cells c (new_cell 0) (length cells) refl)
          ∙ ap (λ (b : Bool). record { header = h; cell = c; marked = b })
          (get_or_push marks m false (length headers) is.each_mark)

      cell_old : (i n : ℕ) (k : Shdr) → get_or slots i 0 ≡ n
          → cell_by size i k (cells ++ c ∷ []) n ≡ cell_by size i k cells n
      cell_old i zero k slot = refl
      cell_old i (suc place) k slot =
          let within = is.within i in
          get_or_append_left cells (c ∷ []) (new_cell 0) place (omega (arith, within, slot))

      old_at : (i : ℕ) → i < length headers
          → pushed_at i ≡ section_by size headers marks slots cells i
      old_at i below =
          ap (λ (k : Shdr). record {
            header = k;
            cell =
                cell_by size i k (cells ++ c ∷ [])
                (get_or (slots ++ (length cells + 1) ∷ []) i 0);
            marked = get_or (marks ++ m ∷ []) i false;
          }) (get_or_append_left headers (h ∷ []) zero_shdr i below)
          ∙ ap (λ (n : ℕ). record {
            header = get_or headers i zero_shdr;
            cell = cell_by size i (get_or headers i zero_shdr) (cells ++ c ∷ []) n;
            marked = get_or (marks ++ m ∷ []) i false;
          }) (slots_old i below)
          ∙ ap (λ (d : CellView). record {
            header = get_or headers i zero_shdr;
            cell = d;
            marked = get_or (marks ++ m ∷ []) i false;
          }) (cell_old i (get_or slots i 0) (get_or headers i zero_shdr) refl)
          ∙ ap (λ (b : Bool). record {
            header = get_or headers i zero_shdr;
            cell = cell_by size i (get_or headers i zero_shdr) cells (get_or slots i 0);
            marked = b;
          })
          (let count = is.each_mark in
          get_or_append_left marks (m ∷ []) false i (omega (arith, count, below)))

-- ---- By what each list became

module _ (size room room_new place : ℕ) (headers headers_new : List Shdr)
    (marks marks_new : List Bool) (slots slots_new : List ℕ) (cells cells_new : List CellView)
    (h : Shdr) (m : Bool) (c : CellView) (of_headers : headers_new ≡ headers ++ h ∷ [])
    (of_marks : marks_new ≡ marks ++ m ∷ []) (of_slots : slots_new ≡ slots ++ (place + 1) ∷ [])
    (of_cells : cells_new ≡ cells ++ c ∷ []) (at : place ≡ length cells)
    (is : IsSections headers marks slots cells room) where
  slots_by : slots_new ≡ slots ++ (length cells + 1) ∷ []
  slots_by = of_slots ∙ ap (λ (n : ℕ). slots ++ (n + 1) ∷ []) at

  -- the lists with one more
  abbrev headers_more : List Shdr
  headers_more = headers ++ h ∷ []

  abbrev marks_more : List Bool
  marks_more = marks ++ m ∷ []

  abbrev slots_more : List ℕ
  slots_more = slots ++ (length cells + 1) ∷ []

  pub grown_sections : length headers < MAX_SECTIONS → length headers + 1 ≤ room_new
      → IsSections headers_new marks_new slots_new cells_new room_new
  grown_sections few fits =
      subst (λ (l : List Shdr). IsSections l marks_new slots_new cells_new room_new)
      (sym of_headers)
      (subst (λ (l : List Bool). IsSections headers_more l slots_new cells_new room_new)
      (sym of_marks)
      (subst (λ (l : List ℕ). IsSections headers_more marks_more l cells_new room_new)
      (sym slots_by)
      (subst (λ (l : List CellView). IsSections headers_more marks_more slots_more l room_new)
      (sym of_cells)
      (pushed_sections size room headers marks slots cells h m c room_new is few fits))))

  pub grown_view : sections_view size headers_new marks_new slots_new cells_new
      ≡ sections_view size headers marks slots cells
      ++ record { header = h; cell = c; marked = m } ∷ []
  grown_view =
      ap (λ (l : List Shdr). sections_view size l marks_new slots_new cells_new) of_headers
      ∙ ap (λ (l : List Bool). sections_view size headers_more l slots_new cells_new) of_marks
      ∙ ap (λ (l : List ℕ). sections_view size headers_more marks_more l cells_new) slots_by
      ∙ ap (λ (l : List CellView). sections_view size headers_more marks_more slots_more l) of_cells
      ∙ pushed_view size room headers marks slots cells h m c room_new is
