-- The object of an image, with each section as its header, as opened, gives it (elf_begin; gABI
-- chapter 4, "Section Header").
use Rattle.std.specs.Prelude.{ℕ, ◌+◌, ◌-◌, true, false, not, ◌==◌, ◌&&◌, nat_lt, List, [], ◌∷◌, length, take, drop, map, flat_map, slice_index, if◌then◌else◌, Result, Ok, Err}
use Rattle.elf_types.specs.Kinds.{section_kind}
use Rattle.elf_types.specs.declared.records.Class.{Class}
use Rattle.elf_types.specs.declared.records.Order.{Order}
use Rattle.elf_types.specs.declared.records.Ehdr.{Ehdr}
use Rattle.elf_types.specs.declared.records.Phdr.{Phdr}
use Rattle.elf_types.specs.declared.records.Shdr.{Shdr}
use Rattle.elf_types.specs.declared.errors.ElfError.{ElfError}
use Rattle.elf_types.specs.declared.constants.TheConstants.{EI_NIDENT, EI_PAD, EV_CURRENT}
use Rattle.elf_ident.specs.elf_xlate.Headers.{ehdr_bytes, phdr_bytes, shdr_bytes}
use Rattle.elf_ident.specs.declared.fronts.Front.{Front}
use Rattle.elf_ident.specs.Front.{front}
use Rattle.elf_object.specs.Blocks.{Block}
use Rattle.elf_object.specs.Object.{Object, Section, Home, WrittenFront, home_piece, occupies_file}
use Rattle.std.proofs.Math.ListN.{replicate}

-- ---- Home and content

-- the bytes that the section has in the file: sh_size of them, none for SHT_NULL and SHT_NOBITS
unfoldable pub home_len : Shdr → ℕ
home_len h = if occupies_file h then h.size else 0

-- the home that a header gives a section in an image of a length
unfoldable pub home_of : ℕ → Shdr → Home
home_of len h = record {
  at = h.offset;
  len = home_len h;
  kind = section_kind h;
  out = not (home_len h == 0) && nat_lt len (h.offset + home_len h);
}

-- the home's bytes; a home that passes the image's end has none
unfoldable pub home_bytes : Home → List ℕ → List ℕ
home_bytes home image = if home.out then [] else take home.len (drop home.at image)

-- a section with that header in an image
unfoldable pub opened_section : List ℕ → Shdr → Section
opened_section image h = record {
  header = h;
  home = home_of (length image) h;
  raw = home_bytes (home_of (length image) h) image;
  pieces = home_piece ∷ [];
  marked = false;
}

-- ---- The front as it stands in an image

-- the bytes of the two tables
unfoldable pub phdrs_bytes : Class → Order → List Phdr → List ℕ
phdrs_bytes class order phdrs = flat_map (phdr_bytes class order) phdrs

unfoldable pub shdrs_bytes : Class → Order → List Shdr → List ℕ
shdrs_bytes class order shdrs = flat_map (shdr_bytes class order) shdrs

-- the front of an image with that header, which has the two counts and the string index as they are
-- written, and with those tables
unfoldable pub front_in_image : Ehdr → List ℕ → List Phdr → List Shdr → WrittenFront
front_in_image h pad phdrs shdrs = record {
  header = record { at = 0; bytes = ehdr_bytes h pad };
  segments = record { at = h.phoff; bytes = phdrs_bytes h.class h.order phdrs };
  table = record { at = h.shoff; bytes = shdrs_bytes h.class h.order shdrs };
}

-- the header as it stands in the image
unfoldable pub standing_header : Front → Ehdr
standing_header f = record f.ehdr {
  phnum = slice_index f.written 0;
  shnum = slice_index f.written 1;
  shstrndx = slice_index f.written 2;
}

-- ---- Open

-- the object with that front, over the bytes of its image. Of a source that does not tell its bytes
-- they count as zeros, as many as it has.
unfoldable pub begun : Front → List ℕ → Object
begun f image = record {
  header = f.ehdr;
  pad = f.pad;
  phdrs = f.phdrs;
  sections = map (opened_section image) f.shdrs;
  base = image;
  written_front = front_in_image (standing_header f) f.pad f.phdrs f.shdrs;
  layout = false;
  fill = 0;
  marked = false;
  header_marked = false;
  segments_marked = false;
}

abbrev pub begun_or_refused : Result Front ElfError → List ℕ → Result Object ElfError
begun_or_refused (Ok f) image = Ok (begun f image)
begun_or_refused (Err e) image = Err e

-- the object of an image, or the first refusal of its front
unfoldable pub opened : List ℕ → Result Object ElfError
opened image = begun_or_refused (front image) image

-- ---- Create

abbrev pub no_block : Block
no_block = record { at = 0; bytes = [] }

abbrev pub no_front : WrittenFront
no_front = record { header = no_block; segments = no_block; table = no_block }

abbrev pub new_ehdr : Class → Order → Ehdr
new_ehdr class order = record {
  class = class;
  order = order;
  osabi = 0;
  abiversion = 0;
  etype = 0;
  machine = 0;
  version = EV_CURRENT;
  entry = 0;
  phoff = 0;
  shoff = 0;
  flags = 0;
  ehsize = 0;
  phentsize = 0;
  phnum = 0;
  shentsize = 0;
  shnum = 0;
  shstrndx = 0;
}

-- an object without sections and program headers, over base bytes that count with ELF_F_LAYOUT
unfoldable pub created_over : Class → Order → List ℕ → Object
created_over class order base = record {
  header = new_ehdr class order;
  pad = replicate (EI_NIDENT - EI_PAD) 0;
  phdrs = [];
  sections = [];
  base = base;
  written_front = no_front;
  layout = false;
  fill = 0;
  marked = false;
  header_marked = true;
  segments_marked = false;
}

abbrev pub created : Class → Order → Object
created class order = created_over class order []
