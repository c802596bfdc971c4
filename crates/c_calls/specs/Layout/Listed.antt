-- The headers that C hands over, as they are listed for a layout, and what is refused by them alone.
use Rattle.std.specs.Prelude.{◌≡◌, ℕ, ◌<◌, ◌==◌, ◌&&◌, ◌||◌, nat_lt, nat_le, not, Bool, false, List, [], ◌∷◌, length, map, slice_index, slice_index_or, if◌then◌else◌, Option}
use Rattle.std.specs.List.{position}
use Rattle.std.specs.Option.{option_map}
use Rattle.elf_types.specs.Answers.{refused_if}
use Rattle.elf_types.specs.declared.constants.TheConstants.{MAX_SECTIONS, MAX_SEGMENTS, PN_XNUM, SHN_LORESERVE}
use Rattle.elf_types.specs.declared.errors.ElfError.{ElfError}
use Rattle.elf_types.specs.declared.errors.ElfError.TheVariants.{TooMany, Unfit}
use Rattle.elf_types.specs.declared.records.Class.{Class}
use Rattle.elf_types.specs.declared.records.Part.TheVariants as part
use Rattle.elf_types.specs.declared.records.Shdr.{Shdr}
use Rattle.elf_xlate.specs.Headers.{phdr_fits}
use Rattle.elf_object.specs.elf_ident.Front.{zero_shdr}
use Rattle.elf_object.specs.Object.{occupies_file}
use Rattle.rebuild_image.specs.declared.listed.listed.HeaderListing.{HeaderListing}
use Rattle.c_records.specs.declared.headers.EhdrRecord.{EhdrRecord}
use Rattle.c_records.specs.declared.headers.PhdrRecord.{PhdrRecord}
use Rattle.c_records.specs.declared.headers.ShdrRecord.{ShdrRecord}
use Rattle.c_calls.specs.Editing.From.{phdr_from_record, shdr_from_record}
use Rattle.c_calls.specs.Layout.Stated.{header_stated}

-- ---- What is refused

-- whether the first section occupies space in the file, where there is one
abbrev pub first_occupies : List ShdrRecord → Bool
first_occupies [] = false
first_occupies (h ∷ hs) = occupies_file (shdr_from_record h)

-- more headers than an object has, or counts that are told neither in the header nor in section 0
unfoldable pub counts_refusal : List PhdrRecord → List ShdrRecord → Option ElfError
counts_refusal phdrs shdrs =
    refused_if
    ((nat_lt MAX_SEGMENTS (length phdrs) || nat_lt MAX_SECTIONS (length shdrs))
    || ((nat_le PN_XNUM (length phdrs) && length shdrs == 0)
    || (nat_le SHN_LORESERVE (length shdrs) && first_occupies shdrs)))
    TooMany

-- the first program header that does not fit the class
unfoldable pub segments_refusal : Class → List PhdrRecord → Option ElfError
segments_refusal class phdrs =
    option_map (Unfit part.Segments)
    (position (λ p. not (phdr_fits class (phdr_from_record p))) phdrs)

-- ---- How they are listed

-- a section's bytes in the file are as many as its header says, where it occupies space there
abbrev pub size_listed : ℕ → Shdr → ℕ
size_listed s h = if s == 0 then 0 else (if occupies_file h then h.size else 0)

pub record AreSizes (headers : List Shdr) (sizes : List ℕ) : Type 0 where
  pub count : length sizes ≡ length headers
  pub each : (s : ℕ) → s < length headers
      → slice_index sizes s ≡ size_listed s (slice_index_or headers s zero_shdr)

pub record ListsHeaders (ehdr : EhdrRecord) (phnum : ℕ) (shdrs : List ShdrRecord)
    (x : HeaderListing) : Type 0 where
  pub header : x.header ≡ header_stated ehdr phnum (length shdrs)
  pub headers : x.headers ≡ map shdr_from_record shdrs
  pub sizes : AreSizes x.headers x.sizes
