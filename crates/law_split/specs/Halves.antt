-- What the two halves of an image, written and opened again, have of it: the debug half, and the
-- image without some of its sections.
use Rattle.std.specs.Prelude.{◌≡◌, ℕ, ◌<◌, ◌≤◌, true, false, List, length, slice_index, if◌then◌else◌, Ok, Err}
use Rattle.elf_types.specs.Lists.{AreBytes}
use Rattle.elf_types.specs.declared.records.Ehdr.{Ehdr}
use Rattle.elf_types.specs.declared.records.Shdr.{Shdr}
use Rattle.elf_types.specs.declared.errors.ElfError.TheVariants.{TooLarge}
use Rattle.elf_types.specs.declared.constants.TheConstants.{SHT_NOBITS}
use Rattle.elf_object.specs.Object.{Object, section_at}
use Rattle.elf_object.specs.Open.{opened}
use Rattle.elf_object.specs.Sections.{is_allocated, is_program, header_at, is_among}
use Rattle.rebuild_model.specs.Followed.{kept_sections}
use Rattle.rebuild_model.specs.Arranged.{Rebuilt}
use Rattle.rebuild_model.specs.Rebuilt.{rebuilt}
use Rattle.rebuild_model.specs.Split.{UnstripFault, is_loaded_from_file, debug_of, matches, unstripped}
use Rattle.rebuild_model.specs.Split.UnstripFault.{Elf}
use Rattle.rebuild_model.specs.Files.{file_of}
use Rattle.rebuild_model.specs.KeepingLaws.{SameHeader, IsSplit, SameButPlaces}

-- ---- The debug half

-- a section's header but for its place
abbrev pub without_place : Shdr → Shdr
without_place h = record h { offset = 0 }

-- an image and its debug half, and the objects of both as they are opened
pub record IsDebugHalf (whole debug : Object) : Type 0 where
  pub image : List ℕ
  pub bytes : AreBytes image
  pub is_whole : opened image ≡ Ok whole
  pub half : Object
  pub is_half : debug_of whole ≡ Ok half
  pub out : List ℕ
  pub is_out : file_of half ≡ Ok out
  pub is_debug : opened out ≡ Ok debug

-- what is loaded of the file has no bytes in the debug half
abbrev pub debug_header : Shdr → Shdr
debug_header h = if is_loaded_from_file h then record h { stype = SHT_NOBITS } else h

-- each section under its number, and the bytes of those that are not loaded of the file
pub record KeepsForDebug (whole debug : Object) : Type 0 where
  pub header : SameHeader whole.header debug.header
  pub phdrs : debug.phdrs ≡ whole.phdrs
  pub count : length debug.sections ≡ length whole.sections
  pub headers : (s : ℕ) → 1 ≤ s → s < length whole.sections
      → without_place (header_at debug s) ≡ without_place (debug_header (header_at whole s))
  pub raw : (s : ℕ) → 1 ≤ s → s < length whole.sections
      → is_loaded_from_file (header_at whole s) ≡ false
      → (section_at debug s).raw ≡ (section_at whole s).raw

abbrev pub DebugHalfKeeps : Type 0
DebugHalfKeeps =
    (whole debug : Object) → IsDebugHalf whole debug → KeepsForDebug whole debug

-- ---- The other half

-- an image made anew without some sections, of which section 0 is none, and the objects of both as
-- they are opened
pub record IsStrippedHalf (removed : List ℕ) (whole stripped : Object) : Type 0 where
  pub image : List ℕ
  pub bytes : AreBytes image
  pub is_whole : opened image ≡ Ok whole
  pub first_stays : is_among removed 0 ≡ false
  pub made : Rebuilt
  pub is_made : rebuilt whole removed ≡ Ok made
  pub out : List ℕ
  pub is_out : file_of made.object ≡ Ok out
  pub is_stripped : opened out ≡ Ok stripped

-- a header but for the string index
abbrev pub without_index : Ehdr → Ehdr
without_index h = record h { shstrndx = 0 }

-- a section's header but for its name, its links and its place
abbrev pub without_links : Shdr → Shdr
without_links h = record h { name = 0; link = 0; info = 0; offset = 0 }

-- the section of the image that one of the half was made of
abbrev pub origin_number : Object → List ℕ → ℕ → ℕ
origin_number whole removed t = slice_index (kept_sections whole removed) t

-- each kept section in its order with its flags, and what is allocated with its header and its
-- bytes; that of a program in its place
pub record KeepsAllocated (removed : List ℕ) (whole stripped : Object) : Type 0 where
  pub header : SameHeader (without_index whole.header) (without_index stripped.header)
  pub phoff : is_program whole ≡ true → stripped.header.phoff ≡ whole.header.phoff
  pub phdrs : stripped.phdrs ≡ whole.phdrs
  pub count : length stripped.sections ≡ length (kept_sections whole removed)
  pub flags : (t : ℕ) → 1 ≤ t → t < length stripped.sections
      → (header_at stripped t).flags ≡ (header_at whole (origin_number whole removed t)).flags
  pub headers : (t : ℕ) → 1 ≤ t → t < length stripped.sections
      → is_allocated (header_at whole (origin_number whole removed t)) ≡ true
      → without_links (header_at stripped t)
      ≡ without_links (header_at whole (origin_number whole removed t))
  pub raw : (t : ℕ) → 1 ≤ t → t < length stripped.sections
      → is_allocated (header_at whole (origin_number whole removed t)) ≡ true
      → (section_at stripped t).raw ≡ (section_at whole (origin_number whole removed t)).raw
  pub places : (t : ℕ) → 1 ≤ t → t < length stripped.sections → is_program whole ≡ true
      → is_allocated (header_at whole (origin_number whole removed t)) ≡ true
      → (header_at stripped t).offset ≡ (header_at whole (origin_number whole removed t)).offset

abbrev pub StrippedHalfKeeps : Type 0
StrippedHalfKeeps =
    (removed : List ℕ) (whole stripped : Object) → IsStrippedHalf removed whole stripped
    → KeepsAllocated removed whole stripped

-- ---- Both

-- the two halves of an image match
abbrev pub HalvesMatch : Type 0
HalvesMatch =
    (removed : List ℕ) (whole stripped debug : Object) → IsSplit removed whole stripped debug
    → is_among removed 0 ≡ false → matches stripped debug ≡ true

-- what the two halves are combined to, which is refused at most for a place that is too large:
-- what is written of it is an image, which answers as the first one but for places
pub record CombinesBack (whole stripped debug : Object) : Type 0 where
  pub refused :
      (fault : UnstripFault) → unstripped stripped debug ≡ Err fault → fault ≡ Elf TooLarge
  pub opens :
      (r : Rebuilt) (out : List ℕ) → unstripped stripped debug ≡ Ok r → file_of r.object ≡ Ok out
      → (o : Object) × (opened out ≡ Ok o)
  pub same :
      (r : Rebuilt) (out : List ℕ) (o : Object) → unstripped stripped debug ≡ Ok r
      → file_of r.object ≡ Ok out → opened out ≡ Ok o → SameButPlaces whole o

abbrev pub HalvesCombine : Type 0
HalvesCombine =
    (removed : List ℕ) (whole stripped debug : Object) → IsSplit removed whole stripped debug
    → is_among removed 0 ≡ false → CombinesBack whole stripped debug
