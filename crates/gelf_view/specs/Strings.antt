-- Where a string begins in the pieces of a section (elf_strptr; gABI chapter 4, "String Table").
-- The pieces stand one after the other, each at a multiple of its alignment.
use Rattle.std.specs.Prelude.{◌≡◌, ℕ, ◌+◌, ◌-◌, ◌<◌, ◌≤◌, ◌&&◌, nat_le, nat_lt, Bool, true, not, [], ◌∷◌, List, length, Option, Some, None, IsTrue}
use Rattle.elf_types.specs.declared.records.Kind.TheVariants as kinds
use Rattle.elf_types.specs.declared.errors.ElfError.{ElfError}
use Rattle.elf_types.specs.declared.errors.ElfError.TheVariants.{NotStrings, OutOfFile}
use Rattle.elf_types.specs.Answers.{refused_if, first_refusal}
use Rattle.elf_descriptor.specs.elf_layout.Layout.{rounded_up}
use Rattle.elf_descriptor.specs.elf_object.Object.{Object, section_at, piece_at, home_is_clean}
use Rattle.elf_descriptor.specs.elf_object.Answers.{no_section, piece_count, lend_refusal}
use Rattle.elf_descriptor.specs.elf_object.Joined.{piece_bytes}
use Rattle.elf_descriptor.specs.elf_object.Strings.{holds_strings, piece_over, string_refusal_unread}
use Rattle.gelf_view.specs.declared.string_places.Stand.{Stand}
use Rattle.gelf_view.specs.declared.string_places.Stand.TheVariants.{Covers, Ends, Before}

-- the bytes of a piece in its file form
unfoldable pub bytes_in : Object → ℕ → ℕ → List ℕ
bytes_in o s p = piece_bytes o.header.class o.header.order (section_at o s).raw (piece_at o s p)

-- ---- One piece

-- whether an offset is in a piece of so many bytes, which comes next after an end
abbrev pub is_in_piece : ℕ → ℕ → ℕ → ℕ → Bool
is_in_piece end align len offset =
    nat_le (rounded_up end align) offset && nat_lt offset (rounded_up end align + len)

-- it is so far from the piece's first byte; or behind the piece, which ends there; or before it
abbrev pub Stands : ℕ → ℕ → ℕ → ℕ → Stand → Type 0
Stands end align len offset (Covers start) =
    (is_in_piece end align len offset ≡ true) × (start ≡ offset - rounded_up end align)
Stands end align len offset (Ends next) = (next ≡ rounded_up end align + len) × (next ≤ offset)
Stands end align len offset Before = offset < rounded_up end align

-- ---- All pieces

-- the first piece that covers an offset is that one, and the offset is so far from its first byte
pub record IsOver (o : Object) (s offset p start : ℕ) : Type 0 where
  pub there : p < piece_count o s
  pub at : ℕ
  pub over : piece_over o s offset ≡ Some (record { at = at; bytes = bytes_in o s p })
  pub distance : offset - at ≡ start
  pub within : start < length (bytes_in o s p)

-- the string at an offset begins in that piece, so far from its first byte: nothing refuses it that
-- is seen before a byte is read, and the home is read only for the clean home piece
pub record Begins (o : Object) (s offset p start : ℕ) : Type 0 where
  pub passed : string_refusal_unread o s offset ≡ None
  pub over : IsOver o s offset p start
  pub lent : lend_refusal o kinds.Bytes s p ≡ None
  pub clean : (piece_at o s p).own ≡ None → IsTrue (home_is_clean (section_at o s))

-- ---- Refusals

-- it is no section of strings
abbrev pub no_strings : Object → ℕ → Option ElfError
no_strings o s = first_refusal
    (no_section o s ∷ refused_if (not (holds_strings (section_at o s))) (NotStrings s) ∷ [])

-- the home piece is clean, and its home is out of the file
abbrev pub home_missing : Object → ℕ → Option ElfError
home_missing o s =
    refused_if (home_is_clean (section_at o s) && (section_at o s).home.out) (OutOfFile s)
