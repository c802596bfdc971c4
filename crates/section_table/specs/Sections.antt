-- The sections of an object as the program keeps them: headers, marks, and cells that are made when
-- they are first lent (gABI chapter 4, "Sections").
use Rattle.std.specs.Prelude.{◌≡◌, ◌≢◌, ◌⊎◌, ℕ, zero, suc, ◌+◌, ◌<◌, ◌≤◌, ◌==◌, Bool, true, false, List, [], ◌∷◌, ◌++◌, length, map, slice_set, slice_index_or, None}
use Rattle.std.specs.List.{range_with_len, enumerate_from, count_by}
use Rattle.elf_types.specs.declared.constants.TheConstants.{MAX_SECTIONS}
use Rattle.elf_types.specs.declared.records.Shdr.{Shdr}
use Rattle.section_data.specs.elf_ident.Front.{zero_shdr}
use Rattle.section_data.specs.elf_object.Object.{home_piece}
use Rattle.section_data.specs.elf_object.Open.{home_of}
use Rattle.section_data.specs.Views.{CellView, opened_cell, new_cell}
use Rattle.section_table.specs.declared.at.CellAt.{CellAt}
use Rattle.section_table.specs.declared.at.CellAt.TheVariants.{Made, Unread}

-- ---- A section

pub record SectionView : Type 0 where
  pub header : Shdr  -- the present one
  pub cell : CellView
  pub marked : Bool  -- the header is marked dirty

-- what stands at a number that no section has
abbrev pub absent_scn : SectionView
absent_scn = record { header = zero_shdr; cell = new_cell 0; marked = false }

abbrev pub section_in : List SectionView → ℕ → SectionView
section_in l s = slice_index_or l s absent_scn

-- a section of an image of `size` bytes, with its number and its header; nothing of it is read
abbrev pub opened_scn : ℕ → ℕ × Shdr → SectionView
opened_scn size s = record {
  header = s.1;
  cell = opened_cell s.0 (home_of size s.1);
  marked = false;
}

-- the sections with these headers
unfoldable pub opened_scns : ℕ → List Shdr → List SectionView
opened_scns size headers = map (opened_scn size) (enumerate_from 0 headers)

-- a new section (elf_newscn)
abbrev pub new_scn : ℕ → SectionView
new_scn s = record { header = zero_shdr; cell = new_cell s; marked = true }

-- a section of an image of `size` bytes that was written, as its header gives it
abbrev pub reopened_scn : ℕ → SectionView → SectionView
reopened_scn size x = record x {
  cell = opened_cell x.cell.section (home_of size x.header);
  marked = false;
}

-- a cell as it was opened: nothing is held of it, and it has the clean home piece alone
pub record IsAsOpened (c : CellView) : Type 0 where
  pub raw : c.raw ≡ None
  pub held : c.held ≡ None
  pub room : c.room ≡ false
  pub pieces : c.pieces ≡ home_piece ∷ []

-- the data of each section has its number
abbrev pub AreNumbered : List SectionView → Type 0
AreNumbered l = (s : ℕ) → s < length l → (section_in l s).cell.section ≡ s

-- a cell that is looked at
abbrev pub cell_of : CellAt → CellView
cell_of (Made cell) = cell.now
cell_of (Unread cell) = cell

-- ---- What the program keeps

-- the cell of a section: one that was made, or the one that its header tells
abbrev pub cell_by : ℕ → ℕ → Shdr → List CellView → ℕ → CellView
cell_by size s header cells zero = opened_cell s (home_of size header)
cell_by size s header cells (suc place) = slice_index_or cells place (new_cell 0)

abbrev pub section_by : ℕ → List Shdr → List Bool → List ℕ → List CellView → ℕ → SectionView
section_by size headers marks slots cells s = record {
  header = slice_index_or headers s zero_shdr;
  cell = cell_by size s (slice_index_or headers s zero_shdr) cells (slice_index_or slots s 0);
  marked = slice_index_or marks s false;
}

unfoldable pub sections_view : ℕ → List Shdr → List Bool → List ℕ → List CellView
    → List SectionView
sections_view size headers marks slots cells =
    map (section_by size headers marks slots cells) (range_with_len 0 (length headers))

-- how many have no cell
abbrev pub unmade : List ℕ → ℕ
unmade slots = count_by (λ slot. slot == 0) slots

-- There is a mark and a slot for each header, and no two sections have one cell; there is a place
-- for the cell of each section that has none.
pub record IsSections (headers : List Shdr) (marks : List Bool) (slots : List ℕ)
    (cells : List CellView) (room : ℕ) : Type 0 where
  pub few : length headers ≤ MAX_SECTIONS
  pub each_mark : length marks ≡ length headers
  pub each_slot : length slots ≡ length headers
  pub within : (s : ℕ) → slice_index_or slots s 0 ≤ length cells
  pub apart : (s t : ℕ) → s ≢ t → slice_index_or slots s 0 ≡ slice_index_or slots t 0
      → slice_index_or slots s 0 ≡ 0
  pub made : unmade slots + length cells ≡ length headers
  pub fits : length headers ≤ room

-- the cell of a section was there, at that place
pub record WasThere (s : ℕ) (slots slots_new : List ℕ) (cells cells_new : List CellView)
    (place : ℕ) : Type 0 where
  pub slot : slice_index_or slots s 0 ≡ place + 1
  pub same_slots : slots_new ≡ slots
  pub same_cells : cells_new ≡ cells

-- it was made, and stands there
pub record IsAnew (size s : ℕ) (header : Shdr) (slots slots_new : List ℕ)
    (cells cells_new : List CellView) (place : ℕ) : Type 0 where
  pub none : slice_index_or slots s 0 ≡ 0
  pub at : place ≡ length cells
  pub slot : slots_new ≡ slice_set slots s (place + 1)
  pub cell : cells_new ≡ cells ++ opened_cell s (home_of size header) ∷ []

-- one of these
abbrev pub Makes : ℕ → ℕ → Shdr → List ℕ → List ℕ → List CellView → List CellView → ℕ → Type 0
Makes size s header slots slots_new cells cells_new place =
    WasThere s slots slots_new cells cells_new place
    ⊎ IsAnew size s header slots slots_new cells cells_new place
