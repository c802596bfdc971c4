-- The bytes of a section in the file (gABI chapter 4, "Sections"): its pieces in order, each at a
-- place that its alignment divides, with the fill byte between them.
use Rattle.std.specs.Prelude.{ℕ, List, [], map, if◌then◌else◌, None, Some}
use Rattle.elf_types.specs.declared.records.Class.{Class}
use Rattle.elf_types.specs.declared.records.Order.{Order}
use Rattle.elf_ident.specs.elf_xlate.Translation.{encoded}
use Rattle.elf_object.specs.Blocks.{Block, stacked, last_end, spread}
use Rattle.elf_object.specs.Object.{Object, Section, Piece, section_at, has_file_bytes}

-- a piece in its file form: the home's bytes for the clean home piece, else its items encoded
unfoldable pub piece_bytes : Class → Order → List ℕ → Piece → List ℕ
piece_bytes class order raw p = elim (p.own) [ None ↦ raw | Some items ↦ encoded class order items ]

-- each piece with its alignment
unfoldable pub aligned_pieces : Class → Order → Section → List (ℕ × List ℕ)
aligned_pieces class order s = map (λ p. (p.align, piece_bytes class order s.raw p)) s.pieces

-- where the pieces of a section stand in it
unfoldable pub piece_blocks : Object → ℕ → List Block
piece_blocks o s = stacked 0 (aligned_pieces o.header.class o.header.order (section_at o s))

-- the size of its data: the end of the last piece
unfoldable pub pieces_end : Object → ℕ → ℕ
pieces_end o s = last_end 0 (piece_blocks o s)

-- the same of a section by itself, in a class and a byte order
abbrev pub section_end : Class → Order → Section → ℕ
section_end class order s = last_end 0 (stacked 0 (aligned_pieces class order s))

-- the bytes of a section in the file: SHT_NULL, SHT_NOBITS and section 0 have none, whatever their
-- pieces are. Strings are looked up in the pieces (`piece_blocks`, `pieces_end`), which section 0
-- may have too.
unfoldable pub file_bytes : Object → ℕ → List ℕ
file_bytes o s =
    if has_file_bytes s (section_at o s)
    then spread (pieces_end o s) (λ _. o.fill) (piece_blocks o s)
    else []
