-- What the program keeps of an object, as the plain object.
use Rattle.std.specs.Prelude.{◌≡◌, ℕ, Bool, false, List, [], ◌==◌, ◌&&◌, ◌||◌, length, min, take, map, nat_le, slice_index_or, true, Option, Some, None, is_some, if◌then◌else◌}
use Rattle.std.proofs.Math.ListN.{replicate}
use Rattle.elf_types.specs.declared.errors.ElfError.{ElfError}
use Rattle.elf_types.specs.declared.errors.ElfError.TheVariants.{NoSection}
use Rattle.elf_types.specs.Answers.{refused_if}
use Rattle.section_table.specs.elf_outside.declared.sources.Source.{Ghosts}
use Rattle.section_table.specs.elf_object.Object.{Object, Section, WrittenFront}
use Rattle.section_table.specs.elf_object.Open.{home_bytes, front_in_image, no_front}
use Rattle.section_table.specs.section_data.Views.{CellView}
use Rattle.section_table.specs.section_data.Held.{cell_is_loaded}
use Rattle.section_table.specs.Sections.{SectionView as Scn, absent_scn}
use Rattle.elf_descriptor.specs.declared.body.Written.{Written}
use Rattle.elf_descriptor.specs.declared.body.Spare.{Spare}
use Rattle.elf_descriptor.specs.declared.body.Base.{Base}
use Rattle.elf_descriptor.specs.declared.body.Base.TheVariants as bases
use Rattle.elf_descriptor.specs.declared.body.Body.{Body}
use Rattle.elf_descriptor.specs.State.{State}

-- ---- The plain object

-- loaded bytes, or else others
abbrev pub bytes_or : Option (List ℕ) → List ℕ → List ℕ
bytes_or None bytes = bytes
bytes_or (Some loaded) bytes = loaded

-- the home's bytes: those that are loaded, else those in the image. Of a source that does not tell
-- its bytes they count as zeros, also once they are loaded.
unfoldable pub raw_of : Option (List ℕ) → CellView → List ℕ
raw_of None c = if c.home.out then [] else replicate c.home.len 0
raw_of (Some image) c = bytes_or c.raw (home_bytes c.home image)

unfoldable pub section_of : Option (List ℕ) → Scn → Section
section_of image s = record {
  header = s.header;
  home = s.cell.home;
  raw = raw_of image s.cell;
  pieces = s.cell.pieces;
  marked = s.marked;
}

-- the bytes of a source that has so many; of one that does not tell them they count as zeros
abbrev pub source_bytes : Option (List ℕ) → ℕ → List ℕ
source_bytes (Some image) size = image
source_bytes None size = replicate size 0

-- the base: bytes that were handed in, or the first ones of the source. A source may have more than
-- the base once a write failed that made it longer.
abbrev pub base_of : Base → Option (List ℕ) → ℕ → List ℕ
base_of (bases.Own bytes) image size = bytes
base_of (bases.Source n) image size = take n (source_bytes image size)

-- the base over a source that has so many bytes
abbrev pub cut_at : ℕ → Base → Base
cut_at size (bases.Own bytes) = bases.Own bytes
cut_at size (bases.Source n) = bases.Source (min n size)

abbrev pub written_of : Option Written → WrittenFront
written_of None = no_front
written_of (Some w) = front_in_image w.header w.pad w.phdrs w.shdrs

-- the plain object over a source that tells these bytes, or none, and has so many
unfoldable pub object_of : Option (List ℕ) → ℕ → Body → Object
object_of image size b = record {
  header = b.header;
  pad = b.pad;
  phdrs = b.phdrs;
  sections = map (section_of image) b.sections;
  base = base_of b.base image size;
  written_front = written_of b.written;
  layout = b.layout;
  fill = b.fill;
  marked = b.marked;
  header_marked = b.header_marked;
  segments_marked = b.segments_marked;
}

-- ---- What is held

unfoldable pub loaded_of : Body → List Bool
loaded_of b = map (λ s. cell_is_loaded s.cell) b.sections

unfoldable pub held_of : Body → List Bool
held_of b = map (λ s. is_some s.cell.held) b.sections

unfoldable pub room_of : Body → List Bool
room_of b = map (λ s. s.cell.room) b.sections

-- ---- Whether an update can settle the object without memory

-- the base is the source's
abbrev pub is_of_source : Base → Bool
is_of_source (bases.Own bytes) = false
is_of_source (bases.Source n) = true

-- spare memory is for so many program headers and so many section headers
abbrev pub has_lengths : Option Spare → ℕ → ℕ → Bool
has_lengths None phnum shnum = false
has_lengths (Some spare) phnum shnum =
    (length spare.phdrs == phnum) && (length spare.shdrs == shnum)

-- the base is the source's, and there is spare memory into which the object's front can be copied
abbrev pub has_spare : Body → Bool
has_spare b =
    is_of_source b.base && has_lengths b.spare (length b.phdrs) (length b.sections)

abbrev pub ready_of : Body → Bool
ready_of b = b.ready && has_spare b

-- ---- The state

abbrev pub state_of : {S : Type 0} → Ghosts S → S → Body → State S
state_of g source b = record {
  o = object_of (g.holds source) (g.size source) b;
  told = is_some (g.holds source);
  loaded = loaded_of b;
  held = held_of b;
  room = room_of b;
  ready = ready_of b;
  source = source;
}

-- ---- Words on what the program keeps

unfoldable pub scn_at : Body → ℕ → Scn
scn_at b s = slice_index_or b.sections s absent_scn

unfoldable pub no_scn : Body → ℕ → Option ElfError
no_scn b s = refused_if (nat_le (length b.sections) s) (NoSection s (length b.sections))

-- whether it has one of two marks: a new object has that of the ELF header, and one of which a
-- write failed has that of the object as a whole
abbrev pub has_mark : Body → Bool
has_mark b = b.marked || b.header_marked

-- the two counts in the header are the lengths of the lists
pub record HasCounts (b : Body) : Type 0 where
  pub phnum : b.header.phnum ≡ length b.phdrs
  pub shnum : b.header.shnum ≡ length b.sections
