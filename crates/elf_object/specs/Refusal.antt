-- Why an update is refused: the first cause in this order (elf_update).
use Rattle.std.specs.Prelude.{ℕ, not, ◌==◌, ◌&&◌, ◌||◌, nat_le, [], ◌∷◌, length, map, if◌then◌else◌, Option, Some, None}
use Rattle.std.specs.List.{position, enumerate_from}
use Rattle.std.specs.Option.{option_map}
use Rattle.elf_types.specs.declared.records.Class.{Class}
use Rattle.elf_types.specs.declared.records.Part.TheVariants as part
use Rattle.elf_types.specs.declared.errors.ElfError.{ElfError}
use Rattle.elf_types.specs.declared.errors.ElfError.TheVariants.{TooMany, Unfit, OutOfFile}
use Rattle.elf_types.specs.declared.constants.TheConstants.{SHN_LORESERVE, PN_XNUM}
use Rattle.elf_ident.specs.elf_xlate.Headers.{phdr_fits}
use Rattle.elf_ident.specs.elf_xlate.Translation.{first_unfit}
use Rattle.elf_layout.specs.Layout.{refusal_of}
use Rattle.elf_types.specs.Answers.{refused_if, first_refusal}
use Rattle.elf_object.specs.Object.{Object, Section, Piece, section_at, occupies_file, has_file_bytes, home_is_clean, is_dirty}
use Rattle.elf_object.specs.Layout.{parts_of}

-- a count that the header does not hold has no section 0 to stand in, or would give a section 0 of
-- another type than SHT_NULL and SHT_NOBITS file bytes
unfoldable pub too_many : Object → Option ElfError
too_many o =
    refused_if
    ((nat_le PN_XNUM (length o.phdrs) && length o.sections == 0)
    || (nat_le SHN_LORESERVE (length o.sections) && occupies_file (section_at o 0).header))
    TooMany

-- the first program header that does not fit the class
unfoldable pub unfit_segment : Object → Option ElfError
unfit_segment o =
    option_map (Unfit part.Segments) (position (λ p. not (phdr_fits o.header.class p)) o.phdrs)

-- the first item of a piece that does not fit; the home's bytes fit
unfoldable pub unfit_in_piece : Class → ℕ → ℕ → Piece → Option ElfError
unfit_in_piece class s p piece =
    elim (piece.own) [
      | None ↦ None
      | Some items ↦ option_map (Unfit (part.Piece s p)) (first_unfit class items)
    ]

unfoldable pub unfit_in_section : Class → ℕ → Section → Option ElfError
unfit_in_section class s c =
    if has_file_bytes s c
    then first_refusal (map (λ row. unfit_in_piece class s row.0 row.1) (enumerate_from 0 c.pieces))
    else None

-- by section, piece and index
unfoldable pub unfit_item : Object → Option ElfError
unfit_item o =
    first_refusal
    (map (λ row. unfit_in_section o.header.class row.0 row.1) (enumerate_from 0 o.sections))

-- the first section with file bytes whose home piece is clean and whose home is out of the file
unfoldable pub missing_in_section : ℕ → Section → Option ElfError
missing_in_section s c =
    refused_if (has_file_bytes s c && home_is_clean c && c.home.out) (OutOfFile s)

unfoldable pub missing_home : Object → Option ElfError
missing_home o =
    first_refusal (map (λ row. missing_in_section row.0 row.1) (enumerate_from 0 o.sections))

-- the causes before the places are worked out
unfoldable pub content_refusal : Object → Option ElfError
content_refusal o =
    first_refusal (too_many o ∷ unfit_segment o ∷ unfit_item o ∷ missing_home o ∷ [])

-- two parts share a byte, with ELF_F_LAYOUT; the image, or without ELF_F_LAYOUT a place, is too
-- large
unfoldable pub placing_refusal : Object → Option ElfError
placing_refusal o = refusal_of (parts_of o) o.layout (length o.base) o.header.class

unfoldable pub refusal : Object → Option ElfError
refusal o = if is_dirty o then first_refusal (content_refusal o ∷ placing_refusal o ∷ []) else None
