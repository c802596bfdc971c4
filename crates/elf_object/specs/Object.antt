-- The plain object: an ELF image as lists of headers and sections (gABI chapter 4, "Object Files").
-- Each section has what the image held of it when it was opened, and pieces of data, which edits
-- change.
use Rattle.std.specs.Prelude.{ℕ, ◌/◌, ◌%◌, Bool, true, false, not, ◌==◌, ◌&&◌, ◌||◌, List, [], length, slice_get, slice_index_or, Option, Some, None, is_none}
use Rattle.std.specs.List.{list_any}
use Rattle.elf_types.specs.declared.records.Kind.{Kind}
use Rattle.elf_types.specs.declared.records.Kind.TheVariants as kinds
use Rattle.elf_types.specs.declared.records.Ehdr.{Ehdr}
use Rattle.elf_types.specs.declared.records.Phdr.{Phdr}
use Rattle.elf_types.specs.declared.records.Shdr.{Shdr}
use Rattle.elf_types.specs.declared.constants.TheConstants.{SHT_NULL, SHT_NOBITS, SHF_ALLOC}
use Rattle.elf_ident.specs.elf_xlate.declared.content.Items.{Items}
use Rattle.elf_types.specs.Kinds.{has_flag}
use Rattle.elf_ident.specs.Front.{zero_shdr}
use Rattle.elf_object.specs.Blocks.{Block}

-- a section's home: the extent that its header, as opened, gives it in the image, the kind of its
-- items, and whether it passes the image's end
pub record Home : Type 0 where
  pub at : ℕ
  pub len : ℕ
  pub kind : Kind
  pub out : Bool

-- a piece of a section's data (elf_getdata): its own items, or None for the clean home piece, which
-- is what the home holds; its alignment in the section; whether it is marked dirty
pub record Piece : Type 0 where
  pub own : Option Items
  pub align : ℕ
  pub marked : Bool

-- a section: its present header, its home, the home's bytes as they were opened, and its pieces in
-- order
pub record Section : Type 0 where
  pub header : Shdr
  pub home : Home
  pub raw : List ℕ
  pub pieces : List Piece
  pub marked : Bool

-- the front of the image as opened or last settled: place and bytes of the ELF header, the program
-- header table and the section header table
pub record WrittenFront : Type 0 where
  pub header : Block
  pub segments : Block
  pub table : Block

-- an object. The two counts in its header are the lengths of the lists: every step keeps them so.
pub record Object : Type 0 where
  pub header : Ehdr
  pub pad : List ℕ  -- the bytes of the identification from EI_PAD on
  pub phdrs : List Phdr
  pub sections : List Section
  pub base : List ℕ  -- the bytes of the image that it was opened from
  pub written_front : WrittenFront
  pub layout : Bool  -- ELF_F_LAYOUT
  pub fill : ℕ  -- the byte of gaps
  pub marked : Bool
  pub header_marked : Bool
  pub segments_marked : Bool

-- ---- What stands at an index

abbrev pub no_phdr : Phdr
no_phdr = record {
  ptype = 0;
  flags = 0;
  offset = 0;
  vaddr = 0;
  paddr = 0;
  filesz = 0;
  memsz = 0;
  align = 0;
}

abbrev pub no_home : Home
no_home = record { at = 0; len = 0; kind = kinds.Empty; out = false }

-- a section as elf_newscn makes it
abbrev pub new_section : Section
new_section = record { header = zero_shdr; home = no_home; raw = []; pieces = []; marked = true }

-- what stands at an index that no section has
abbrev pub absent_section : Section
absent_section = record new_section { marked = false }

abbrev pub home_piece : Piece
home_piece = record { own = None; align = 1; marked = false }

unfoldable pub section_at : Object → ℕ → Section
section_at o s = slice_index_or o.sections s absent_section

unfoldable pub piece_at : Object → ℕ → ℕ → Piece
piece_at o s p = slice_index_or (section_at o s).pieces p home_piece

-- the header with its true counts
unfoldable pub header_of : Object → Ehdr
header_of o = record o.header { phnum = length o.phdrs; shnum = length o.sections }

-- ---- Words on sections

-- SHT_NULL, an inactive header (gABI chapter 4, "Sections")
abbrev pub is_null : Shdr → Bool
is_null h = h.stype == SHT_NULL

-- a section of type SHT_NULL or SHT_NOBITS occupies no space in the file
abbrev pub occupies_file : Shdr → Bool
occupies_file h = not (h.stype == SHT_NULL || h.stype == SHT_NOBITS)

-- SHF_ALLOC: the section is in memory when the program runs
unfoldable pub is_allocated : Shdr → Bool
is_allocated h = has_flag SHF_ALLOC h

-- whether the image holds bytes of the section with this number, empty or not
unfoldable pub has_file_bytes : ℕ → Section → Bool
has_file_bytes i s = not (i == 0) && occupies_file s.header

-- whether the home piece is there and clean
unfoldable pub home_is_clean : Section → Bool
home_is_clean s = elim (slice_get s.pieces 0) [ None ↦ false | Some p ↦ is_none p.own ]

-- ---- Dirty marks

unfoldable pub some_piece_marked : Section → Bool
some_piece_marked s = list_any (λ p. p.marked) s.pieces

unfoldable pub some_section_marked : Object → Bool
some_section_marked o = list_any (λ s. s.marked || some_piece_marked s) o.sections

-- whether something is dirty
unfoldable pub is_dirty : Object → Bool
is_dirty o = o.marked || o.header_marked || o.segments_marked || some_section_marked o
