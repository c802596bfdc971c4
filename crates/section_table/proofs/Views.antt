-- The sections of an object, one by one, and what contracts see of the lists that keep them.
use Rattle.std.proofs.Common.{◌≡◌, ◌≢◌, ℕ, zero, suc, ◌+◌, ◌-◌, ◌<◌, ◌==◌, Bool, true, false, List, length, map, get_or, set, refl, sym, ap, ◌∙◌, subst, zero-add, arith}
use Rattle.std.specs.List.{range_with_len}
use Rattle.std.proofs.lemmas.Bool.{eqb-true, eqb-false}
use Rattle.std.proofs.lemmas.List.{length-set, get_or-set_same, get_or-set_other, get_or_read}
use Rattle.std.proofs.lemmas.List.FromFn.{length-map-range_with_len, get_or-map-range_with_len, fill_by_all}
use Rattle.elf_types.specs.declared.records.Shdr.{Shdr}
use Rattle.section_data.specs.elf_ident.Front.{zero_shdr}
use Rattle.section_data.specs.elf_object.Open.{home_of}
use Rattle.section_data.specs.Views.{CellView, opened_cell, new_cell}
use Rattle.section_table.specs.Sections.{SectionView, absent_scn, section_in, IsAsOpened, cell_by, section_by, sections_view, IsSections}

-- ---- Lists by a function of the number

listed : (ℕ → SectionView) → ℕ → List SectionView
listed f n = map f (range_with_len 0 n)

-- one of them is another
pub listed_set : (f g : ℕ → SectionView) (n s : ℕ) (x : SectionView) → s < n → g s ≡ x
    → ((i : ℕ) → i < n → i ≢ s → g i ≡ f i)
    → map g (range_with_len 0 n) ≡ set (map f (range_with_len 0 n)) s x
listed_set f g n s x there here others =
    sym (fill_by_all g (set (map f (range_with_len 0 n)) s x) n absent_scn long each)
  where
    long : length (set (map f (range_with_len 0 n)) s x) ≡ n
    long = length-set (map f (range_with_len 0 n)) s x ∙ length-map-range_with_len f 0 n

    within : s < length (map f (range_with_len 0 n))
    within = let count = length-map-range_with_len f 0 n in omega (arith, count, there)

    each : (k : ℕ) → k < n → get_or (set (map f (range_with_len 0 n)) s x) k absent_scn ≡ g k
    each k below = by_place (k == s) refl
      where
        by_place : (b : Bool) → (k == s) ≡ b
            → get_or (set (map f (range_with_len 0 n)) s x) k absent_scn ≡ g k
        by_place true e =
            let same = eqb-true k s e in
            ap (λ (i : ℕ). get_or (set (map f (range_with_len 0 n)) s x) i absent_scn) same
            ∙ get_or-set_same (map f (range_with_len 0 n)) s x absent_scn within
            ∙ sym here
            ∙ ap g (sym same)
        by_place false e =
            get_or-set_other (map f (range_with_len 0 n)) s k x absent_scn (eqb-false k s e)
            ∙ get_or-map-range_with_len f 0 n k k absent_scn below (zero-add k)
            ∙ sym (others k below (eqb-false k s e))

pub listed_same : (f g : ℕ → SectionView) (n : ℕ) → ((i : ℕ) → i < n → g i ≡ f i)
    → map g (range_with_len 0 n) ≡ map f (range_with_len 0 n)
listed_same f g n each =
    sym (fill_by_all g (map f (range_with_len 0 n)) n absent_scn (length-map-range_with_len f 0 n)
    (λ k below.
    get_or-map-range_with_len f 0 n k k absent_scn below (zero-add k) ∙ sym (each k below)))

-- ---- The view

module _ (size : ℕ) (headers : List Shdr) (marks : List Bool) (slots : List ℕ)
    (cells : List CellView) where
  pub view_length : length (sections_view size headers marks slots cells) ≡ length headers
  unfolding sections_view
  view_length =
      length-map-range_with_len (section_by size headers marks slots cells) 0 (length headers)

  pub view_at : (s : ℕ) → s < length headers
      → section_in (sections_view size headers marks slots cells) s
      ≡ section_by size headers marks slots cells s
  unfolding sections_view
  view_at s there =
      get_or-map-range_with_len (section_by size headers marks slots cells) 0 (length headers) s s
      absent_scn there (zero-add s)

  -- what contracts see
  module _ (l : List SectionView) (seen : sections_view size headers marks slots cells ≡ l) (s : ℕ)
      (there : s < length l) where
    pub seen_below : s < length headers
    seen_below =
        let long = ap (λ (m : List SectionView). length m) seen in
        let count = view_length in
        omega (arith, long, count, there)

    pub seen_at : section_in l s ≡ section_by size headers marks slots cells s
    seen_at = ap (λ (m : List SectionView). section_in m s) (sym seen) ∙ view_at s seen_below

    pub seen_header : get_or headers s zero_shdr ≡ (section_in l s).header
    seen_header = sym (ap (λ (x : SectionView). x.header) seen_at)

    pub seen_marked : get_or marks s false ≡ (section_in l s).marked
    seen_marked = sym (ap (λ (x : SectionView). x.marked) seen_at)

    pub seen_unmade : get_or slots s 0 ≡ 0
        → (section_in l s).cell ≡ opened_cell s (home_of size (get_or headers s zero_shdr))
    seen_unmade none =
        ap (λ (x : SectionView). x.cell) seen_at
        ∙ ap (λ (n : ℕ). cell_by size s (get_or headers s zero_shdr) cells n) none

    pub seen_unread : get_or slots s 0 ≡ 0 → IsAsOpened (section_in l s).cell
    seen_unread none =
        subst (λ (c : CellView). IsAsOpened c) (sym (seen_unmade none))
        (record { raw = refl; held = refl; room = refl; pieces = refl })

    pub seen_made : (place : ℕ) → get_or slots s 0 ≡ place + 1
        → get_or cells place (new_cell 0) ≡ (section_in l s).cell
    seen_made place made =
        let next : get_or slots s 0 ≡ suc place = omega (arith, made) in
        sym (ap (λ (x : SectionView). x.cell) seen_at
        ∙ ap (λ (n : ℕ). cell_by size s (get_or headers s zero_shdr) cells n) next)

  -- a mark
  pub view_marked : (s : ℕ) → s < length headers → length marks ≡ length headers
      → sections_view size headers (set marks s true) slots cells
      ≡ set (sections_view size headers marks slots cells) s
      (record (section_in (sections_view size headers marks slots cells) s) { marked = true })
  unfolding sections_view
  view_marked s there long =
      let old = section_in (sections_view size headers marks slots cells) s in
      listed_set (section_by size headers marks slots cells)
      (section_by size headers (set marks s true) slots cells) (length headers) s
      (record old { marked = true }) there
      (ap (λ (m : Bool). record (section_by size headers marks slots cells s) { marked = m })
      (get_or-set_same marks s true false (omega (arith, long, there)))
      ∙ ap (λ (x : SectionView). record x { marked = true }) (sym (view_at s there)))
      (λ i below other.
      ap (λ (m : Bool). record (section_by size headers marks slots cells i) { marked = m })
      (get_or-set_other marks s i true false other))

  -- a header of a section that has a cell
  pub view_header : (s place : ℕ) (h : Shdr) → s < length headers → get_or slots s 0 ≡ place + 1
      → sections_view size (set headers s h) marks slots cells
      ≡ set (sections_view size headers marks slots cells) s
      (record (section_in (sections_view size headers marks slots cells) s) { header = h })
  unfolding sections_view
  view_header s place h there made =
      let old = section_in (sections_view size headers marks slots cells) s in
      let new_at = section_by size (set headers s h) marks slots cells in
      ap (λ (n : ℕ). map new_at (range_with_len 0 n)) (length-set headers s h)
      ∙ listed_set (section_by size headers marks slots cells) new_at (length headers) s
      (record old { header = h }) there
      (here
      ∙ ap (λ (x : SectionView). record x { header = h }) (sym (view_at s there)))
      (λ i below other.
      ap (λ (k : Shdr). record {
        header = k;
        cell = cell_by size i k cells (get_or slots i 0);
        marked = get_or marks i false;
      }) (get_or-set_other headers s i h zero_shdr other))
    where
      next : get_or slots s 0 ≡ suc place
      next = omega (arith, made)

      here : section_by size (set headers s h) marks slots cells s
          ≡ record (section_by size headers marks slots cells s) { header = h }
      here =
          ap (λ (k : Shdr). record {
            header = k;
            cell = cell_by size s k cells (get_or slots s 0);
            marked = get_or marks s false;
          }) (get_or-set_same headers s h zero_shdr there)
          ∙ ap (λ (n : ℕ). record {
            header = h;
            cell = cell_by size s h cells n;
            marked = get_or marks s false;
          }) next
          ∙ ap (λ (n : ℕ). record {
            header = h;
            cell = cell_by size s (get_or headers s zero_shdr) cells n;
            marked = get_or marks s false;
          }) (sym next)

  -- a cell that was lent
  pub view_lent : (s place room : ℕ) (left : CellView) → IsSections headers marks slots cells room
      → s < length headers → get_or slots s 0 ≡ place + 1 → place < length cells
      → sections_view size headers marks slots (set cells place left)
      ≡ set (sections_view size headers marks slots cells) s
      (record (section_in (sections_view size headers marks slots cells) s) { cell = left })
  unfolding sections_view
  view_lent s place room left is there made within =
      let old = section_in (sections_view size headers marks slots cells) s in
      listed_set (section_by size headers marks slots cells)
      (section_by size headers marks slots (set cells place left)) (length headers) s
      (record old { cell = left }) there
      (ap (λ (c : CellView). record (section_by size headers marks slots cells s) { cell = c }) here
      ∙ ap (λ (x : SectionView). record x { cell = left }) (sym (view_at s there)))
      (λ i below other.
      ap (λ (c : CellView). record (section_by size headers marks slots cells i) { cell = c })
      (elsewhere i (get_or slots i 0) other refl))
    where
      next : get_or slots s 0 ≡ suc place
      next = omega (arith, made)

      here : cell_by size s (get_or headers s zero_shdr) (set cells place left) (get_or slots s 0)
          ≡ left
      here =
          ap (λ (n : ℕ). cell_by size s (get_or headers s zero_shdr) (set cells place left) n) next
          ∙ get_or-set_same cells place left (new_cell 0) within

      elsewhere : (i n : ℕ) → i ≢ s → get_or slots i 0 ≡ n
          → cell_by size i (get_or headers i zero_shdr) (set cells place left) n
          ≡ cell_by size i (get_or headers i zero_shdr) cells n
      elsewhere i zero other slot = refl
      elsewhere i (suc k) other slot =
          get_or-set_other cells place k left (new_cell 0)
          (λ same.
          let alike : get_or slots i 0 ≡ get_or slots s 0 = slot ∙ ap suc same ∙ sym next in
          let none = is.apart i s other alike in
          absurd (omega (arith, none, slot)))

-- ---- What is read of the lists

-- the slot of a section that has no cell, and of one that has
pub slot_clear : (slots : List ℕ) (s slot : ℕ) → s < length slots → slot ≡ get_or slots s slot
    → slot ≡ 0 → get_or slots s 0 ≡ 0
slot_clear slots s slot there read none = sym (get_or_read slots s slot there read 0) ∙ none

pub slot_taken : (slots : List ℕ) (s slot : ℕ) → s < length slots → slot ≡ get_or slots s slot
    → (slot ≡ 0 → ⊥) → get_or slots s 0 ≡ slot - 1 + 1
slot_taken slots s slot there read some =
    let next : slot ≡ slot - 1 + 1 = omega (arith, some) in
    sym (get_or_read slots s slot there read 0) ∙ next
