-- How long a section's data is: its pieces stand one after the other, each at a place that its
-- alignment divides (gABI chapter 4, "Sections"; elf_newdata).
use Rattle.std.specs.Prelude.{ℕ, ◌+◌, List, [], ◌∷◌, None, Some, if◌then◌else◌}
use Rattle.elf_types.specs.declared.records.Class.{Class}
use Rattle.elf_object.specs.elf_xlate.Translation.{file_size, items_kind, items_count}
use Rattle.elf_object.specs.elf_layout.Layout.{rounded_up}
use Rattle.elf_object.specs.Object.{Piece}
use Rattle.section_data.specs.Views.{CellView}

-- the bytes of a piece in the file: as many as the home is long for the clean home piece, else as
-- its items take
unfoldable pub piece_size : Class → ℕ → Piece → ℕ
piece_size class home_len p =
    elim (p.own) [
      | None ↦ home_len
      | Some items ↦ file_size (items_kind items) class (items_count items)
    ]

-- where a piece ends that stands next after an end
unfoldable pub piece_end : Class → ℕ → ℕ → Piece → ℕ
piece_end class home_len end p = rounded_up end p.align + piece_size class home_len p

-- where the last of the pieces ends that stand after an end
unfoldable pub stacked_end : Class → ℕ → ℕ → List Piece → ℕ
stacked_end class home_len end [] = end
stacked_end class home_len end (p ∷ ps) =
    stacked_end class home_len (piece_end class home_len end p) ps

-- the bytes that a home has in the file: none where it passes the end of the image
abbrev pub home_size : CellView → ℕ
home_size c = if c.home.out then 0 else c.home.len

-- the size of a section's data: where its last piece ends
unfoldable pub data_size : Class → CellView → ℕ
data_size class c = stacked_end class (home_size c) 0 c.pieces
