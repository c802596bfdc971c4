-- A cell is made where there is none, and lent.
use Rattle.std.proofs.Common.{◌≡◌, ◌≢◌, inl, inr, ℕ, zero, suc, ◌+◌, ◌<◌, ◌≤◌, ◌==◌, Bool, true, false, List, [], ◌∷◌, ◌++◌, length, get_or, set, refl, sym, ap, ◌∙◌, subst, add-one, arith}
use Rattle.std.specs.Prelude.{if◌then◌else◌}
use Rattle.std.proofs.lemmas.Bool.{eqb-true, eqb-false, ne_eqb}
use Rattle.std.proofs.lemmas.List.{length-set, length_push, get_or-set_same, get_or-set_other, get_or_append_left, get_or_push}
use Rattle.std.proofs.lemmas.List.Sums.{sum_by-set, get_or-le-sum_by}
use Rattle.elf_types.specs.declared.constants.TheConstants.{MAX_SECTIONS}
use Rattle.elf_types.specs.declared.records.Shdr.{Shdr}
use Rattle.section_data.specs.elf_ident.Front.{zero_shdr}
use Rattle.section_data.specs.elf_object.Open.{home_of}
use Rattle.section_data.specs.Views.{CellView, opened_cell, new_cell}
use Rattle.section_table.specs.Sections.{SectionView, cell_by, section_by, sections_view, unmade, IsSections, Makes}
use Rattle.section_table.proofs.Views.{listed_same}

-- ---- A cell is made

module _ (size s : ℕ) (headers : List Shdr) (marks : List Bool) (slots slots_new : List ℕ)
    (cells cells_new : List CellView) (place room room_new : ℕ) (there : s < length headers)
    (is : IsSections headers marks slots cells room) (larger : room ≤ room_new) where
  in_slots : s < length slots
  in_slots = let count = is.each_slot in omega (arith, count, there)

  same_sections : slots_new ≡ slots → cells_new ≡ cells
      → IsSections headers marks slots_new cells_new room_new
  same_sections slots_is cells_is =
      subst (λ (l : List ℕ). IsSections headers marks l cells_new room_new) (sym slots_is)
      (subst (λ (l : List CellView). IsSections headers marks slots l room_new) (sym cells_is)
      (let fits = is.fits in record {
        few = is.few;
        each_mark = is.each_mark;
        each_slot = is.each_slot;
        within = is.within;
        apart = is.apart;
        made = is.made;
        fits = omega (arith, fits, larger);
      }))

  module _ (none : get_or slots s 0 ≡ 0) (c : CellView) where
    slots_at : (i : ℕ) → i ≢ s → get_or (set slots s (length cells + 1)) i 0 ≡ get_or slots i 0
    slots_at i other = get_or-set_other slots s i (length cells + 1) 0 other

    slot_here : get_or (set slots s (length cells + 1)) s 0 ≡ length cells + 1
    slot_here = get_or-set_same slots s (length cells + 1) 0 in_slots

    -- a slot is old, or the new one
    slot_by : (i : ℕ) → (P : ℕ → Type 0) → (i ≡ s → P (length cells + 1))
        → (i ≢ s → P (get_or slots i 0)) → P (get_or (set slots s (length cells + 1)) i 0)
    slot_by i P here elsewhere = by_place (i == s) refl
      where
        by_place : (b : Bool) → (i == s) ≡ b → P (get_or (set slots s (length cells + 1)) i 0)
        by_place true e =
            let same = eqb-true i s e in
            subst P
            (sym (ap (λ (n : ℕ). get_or (set slots s (length cells + 1)) n 0) same ∙ slot_here))
            (here same)
        by_place false e =
            let other = eqb-false i s e in
            subst P (sym (slots_at i other)) (elsewhere other)

    apart_new : (i j : ℕ) → i ≢ j
        → get_or (set slots s (length cells + 1)) i 0 ≡ get_or (set slots s (length cells + 1)) j 0
        → get_or (set slots s (length cells + 1)) i 0 ≡ 0
    apart_new i j other =
        slot_by i (λ a. a ≡ get_or (set slots s (length cells + 1)) j 0 → a ≡ 0)
        (λ at_i.
        slot_by j (λ b. length cells + 1 ≡ b → length cells + 1 ≡ 0)
        (λ at_j alike. absurd (other (at_i ∙ sym at_j)))
        (λ not_j alike. let below = is.within j in absurd (omega (arith, below, alike))))
        (λ not_i.
        slot_by j (λ b. get_or slots i 0 ≡ b → get_or slots i 0 ≡ 0)
        (λ at_j alike. let below = is.within i in absurd (omega (arith, below, alike)))
        (λ not_j alike. is.apart i j other alike))

    count_new : unmade (set slots s (length cells + 1)) + 1 ≡ unmade slots
    count_new =
        let changed =
        sum_by-set (λ (slot : ℕ). if slot == 0 then 1 else 0) slots s (length cells + 1) 0
        in_slots in
        let was : ◌≡◌ {A = ℕ} (if get_or slots s 0 == 0 then 1 else 0) 1 =
        ap (λ (n : ℕ). if n == 0 then 1 else 0) none in
        let now : ◌≡◌ {A = ℕ} (if length cells + 1 == 0 then 1 else 0) 0 =
        not_zero (length cells) in
        omega (arith, changed, was, now)
      where
        not_zero : (n : ℕ) → ◌≡◌ {A = ℕ} (if n + 1 == 0 then 1 else 0) 0
        not_zero n =
            ap (λ (b : Bool). if b then 1 else 0) (ne_eqb (n + 1) 0 (λ e. omega (arith, e)))

    anew_sections : IsSections headers marks (set slots s (length cells + 1)) (cells ++ c ∷ [])
        room_new
    anew_sections =
        let longer = length_push cells c in
        let fits = is.fits in
        let made = is.made in
        record {
          few = is.few;
          each_mark = is.each_mark;
          each_slot = length-set slots s (length cells + 1) ∙ is.each_slot;
          within = λ i.
              slot_by i (λ n. n ≤ length (cells ++ c ∷ []))
              (λ here. omega (arith, longer))
              (λ elsewhere. let below = is.within i in omega (arith, below, longer));
          apart = apart_new;
          made = let less = count_new in omega (arith, made, longer, less);
          fits = omega (arith, fits, larger);
        }

    -- the cell of a slot where the new one stands
    abbrev cell_of_slot : ℕ → ℕ → CellView
    cell_of_slot i n = cell_by size i (get_or headers i zero_shdr) (cells ++ c ∷ []) n

    -- and the sections are the same
    same_at : c ≡ opened_cell s (home_of size (get_or headers s zero_shdr))
        → (i : ℕ) → i < length headers
        → section_by size headers marks (set slots s (length cells + 1)) (cells ++ c ∷ []) i
        ≡ section_by size headers marks slots cells i
    same_at opened i below =
        slot_by i (λ n. record {
          header = get_or headers i zero_shdr;
          cell = cell_by size i (get_or headers i zero_shdr) (cells ++ c ∷ []) n;
          marked = get_or marks i false;
        } ≡ section_by size headers marks slots cells i)
        (λ here. with_cell i (cell_of_slot i (length cells + 1)) (cell_here i here))
        (λ elsewhere.
        with_cell i (cell_of_slot i (get_or slots i 0)) (cell_elsewhere i (get_or slots i 0) refl))
      where
        with_cell : (i : ℕ) (d : CellView)
            → d ≡ cell_by size i (get_or headers i zero_shdr) cells (get_or slots i 0)
            → record {
              header = get_or headers i zero_shdr;
              cell = d;
              marked = get_or marks i false;
            }
            ≡ section_by size headers marks slots cells i
        with_cell i d same =
            ap (λ (e : CellView). record {
              header = get_or headers i zero_shdr;
              cell = e;
              marked = get_or marks i false;
            }) same

        cell_here : (i : ℕ) → i ≡ s
            → cell_by size i (get_or headers i zero_shdr) (cells ++ c ∷ []) (length cells + 1)
            ≡ cell_by size i (get_or headers i zero_shdr) cells (get_or slots i 0)
        cell_here i same =
            ap (λ (n : ℕ). cell_of_slot i n) (add-one (length cells))
            ∙ get_or_push cells c (new_cell 0) (length cells) refl
            ∙ opened
            ∙ ap (λ (j : ℕ). opened_cell j (home_of size (get_or headers j zero_shdr))) (sym same)
            ∙ ap (λ (n : ℕ). cell_by size i (get_or headers i zero_shdr) cells n)
            (sym (ap (λ (j : ℕ). get_or slots j 0) same ∙ none))

        cell_elsewhere : (i n : ℕ) → get_or slots i 0 ≡ n
            → cell_by size i (get_or headers i zero_shdr) (cells ++ c ∷ []) n
            ≡ cell_by size i (get_or headers i zero_shdr) cells n
        cell_elsewhere i zero slot = refl
        cell_elsewhere i (suc k) slot =
            let below = is.within i in
            get_or_append_left cells (c ∷ []) (new_cell 0) k (omega (arith, below, slot))

    pub anew_view : c ≡ opened_cell s (home_of size (get_or headers s zero_shdr))
        → sections_view size headers marks (set slots s (length cells + 1)) (cells ++ c ∷ [])
        ≡ sections_view size headers marks slots cells
    unfolding sections_view
    anew_view opened =
        listed_same (section_by size headers marks slots cells)
        (section_by size headers marks (set slots s (length cells + 1)) (cells ++ c ∷ []))
        (length headers) (same_at opened)

  -- ---- The cell that was there, or was made

  abbrev made_with : List ℕ → List CellView → List SectionView
  made_with l m = sections_view size headers marks l m

  pub made_sections : Makes size s (get_or headers s zero_shdr) slots slots_new cells cells_new
      place → IsSections headers marks slots_new cells_new room_new
  made_sections (inl there) = same_sections there.same_slots there.same_cells
  made_sections (inr new) =
      subst (λ (l : List ℕ). IsSections headers marks l cells_new room_new)
      (sym (new.slot ∙ ap (λ (n : ℕ). set slots s (n + 1)) new.at))
      (subst
      (λ (l : List CellView). IsSections headers marks (set slots s (length cells + 1)) l room_new)
      (sym new.cell)
      (anew_sections new.none (opened_cell s (home_of size (get_or headers s zero_shdr)))))

  pub made_view : Makes size s (get_or headers s zero_shdr) slots slots_new cells cells_new place
      → sections_view size headers marks slots_new cells_new
      ≡ sections_view size headers marks slots cells
  made_view (inl there) =
      ap (λ (l : List ℕ). made_with l cells_new) there.same_slots
      ∙ ap (λ (l : List CellView). made_with slots l) there.same_cells
  made_view (inr new) =
      ap (λ (l : List ℕ). made_with l cells_new)
      (new.slot ∙ ap (λ (n : ℕ). set slots s (n + 1)) new.at)
      ∙ ap (λ (l : List CellView). made_with (set slots s (length cells + 1)) l) new.cell
      ∙ anew_view new.none (opened_cell s (home_of size (get_or headers s zero_shdr))) refl

  pub made_slot : Makes size s (get_or headers s zero_shdr) slots slots_new cells cells_new place
      → get_or slots_new s 0 ≡ place + 1
  made_slot (inl there) = ap (λ (l : List ℕ). get_or l s 0) there.same_slots ∙ there.slot
  made_slot (inr new) =
      ap (λ (l : List ℕ). get_or l s 0) new.slot ∙ get_or-set_same slots s (place + 1) 0 in_slots

  pub made_place : Makes size s (get_or headers s zero_shdr) slots slots_new cells cells_new place
      → place < length cells_new
  made_place makes =
      let slot = made_slot makes in
      let within = (made_sections makes).within s in
      omega (arith, slot, within)

-- another header leaves them sections
pub header_sections : (headers : List Shdr) (marks : List Bool) (slots : List ℕ)
    (cells : List CellView) (room s : ℕ) (h : Shdr) → IsSections headers marks slots cells room
    → IsSections (set headers s h) marks slots cells room
header_sections headers marks slots cells room s h is =
    let same = length-set headers s h in
    let few = is.few in
    let marks_are = is.each_mark in
    let slots_are = is.each_slot in
    let made = is.made in
    let fits = is.fits in
    record {
      few = omega (arith, same, few);
      each_mark = omega (arith, same, marks_are);
      each_slot = omega (arith, same, slots_are);
      within = is.within;
      apart = is.apart;
      made = omega (arith, same, made);
      fits = omega (arith, same, fits);
    }

-- there is room for the cell of a section that has none
pub room_left : (headers : List Shdr) (marks : List Bool) (slots : List ℕ) (cells : List CellView)
    (room s : ℕ) → IsSections headers marks slots cells room
    → s < length headers → get_or slots s 0 ≡ 0
    → (length cells < room) × (length cells < MAX_SECTIONS)
room_left headers marks slots cells room s is there none =
    let count = is.each_slot in
    let one =
    get_or-le-sum_by (λ (slot : ℕ). if slot == 0 then 1 else 0) slots s 0
    (omega (arith, count, there)) in
    let here : ◌≡◌ {A = ℕ} (if get_or slots s 0 == 0 then 1 else 0) 1 =
    ap (λ (n : ℕ). if n == 0 then 1 else 0) none in
    let made = is.made in
    let fits = is.fits in
    let few = is.few in
    (omega (arith, one, here, made, fits), omega (arith, one, here, made, few))

-- what is written into a cell leaves them sections
pub lent_sections : (headers : List Shdr) (marks : List Bool) (slots : List ℕ)
    (cells : List CellView) (room place : ℕ) (left : CellView)
    → IsSections headers marks slots cells room
    → IsSections headers marks slots (set cells place left) room
lent_sections headers marks slots cells room place left is =
    let same = length-set cells place left in
    let made = is.made in
    record {
      few = is.few;
      each_mark = is.each_mark;
      each_slot = is.each_slot;
      within = λ s. let within = is.within s in omega (arith, same, within);
      apart = is.apart;
      made = omega (arith, same, made);
      fits = is.fits;
    }
