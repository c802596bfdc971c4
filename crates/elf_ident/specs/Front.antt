-- The front of an image: its header with the true counts, and its two tables (gABI chapter 4, "ELF
-- Header" and "Sections", chapter 5, "Program Header").
--
-- Where the bytes end before a field or a table, the definitions that read it give what is there; a
-- refusal before them rules that out.
use Rattle.std.specs.Prelude.{◌+◌, ◌-◌, ◌*◌, ℕ, Bool, List, [], ◌∷◌, length, take, drop, slice_index, Option, Some, None, Result, Ok, Err, not, ◌==◌, ◌&&◌, ◌||◌, nat_lt, nat_le, nat_eq, if◌then◌else◌}
use Rattle.std.specs.List.{starts_with}
use Rattle.elf_types.specs.Answers.{refused_if, first_refusal, answered, or_refused, ◌>>=◌}
use Rattle.elf_types.specs.declared.constants.TheConstants.{ELFMAG, EI_NIDENT, EI_CLASS, EI_DATA, EI_VERSION, EI_PAD, ELFCLASS32, ELFCLASS64, ELFDATA2LSB, ELFDATA2MSB, EV_CURRENT, SHN_XINDEX, PN_XNUM, MAX_IMAGE, MAX_SECTIONS, MAX_SEGMENTS}
use Rattle.elf_types.specs.declared.records.Class.{Class}
use Rattle.elf_types.specs.declared.records.Class.TheVariants.{C32, C64}
use Rattle.elf_types.specs.declared.records.Order.{Order}
use Rattle.elf_types.specs.declared.records.Order.TheVariants.{Least, Greatest}
use Rattle.elf_types.specs.declared.records.Ehdr.{Ehdr}
use Rattle.elf_types.specs.declared.records.Phdr.{Phdr}
use Rattle.elf_types.specs.declared.records.Shdr.{Shdr}
use Rattle.elf_types.specs.declared.errors.ElfError.{ElfError}
use Rattle.elf_types.specs.declared.errors.ElfError.TheVariants as error
use Rattle.elf_xlate.specs.Headers.{ehdr_size, phdr_size, shdr_size, ehdr_of, phdr_of, shdr_of}
use Rattle.elf_xlate.specs.Translation.{items_of}
use Rattle.elf_ident.specs.declared.counts.Counts.{Counts}
use Rattle.elf_ident.specs.declared.fronts.Head.{Head}
use Rattle.elf_ident.specs.declared.fronts.Front.{Front}

-- ---- The identification and the header

-- e_ident[EI_CLASS]
abbrev pub class_named : ℕ → Option Class
class_named n = if n == ELFCLASS32 then Some C32 else (if n == ELFCLASS64 then Some C64 else None)

-- e_ident[EI_DATA]
abbrev pub order_named : ℕ → Option Order
order_named n =
    if n == ELFDATA2LSB then Some Least else (if n == ELFDATA2MSB then Some Greatest else None)

-- a version that is not the current one, e_ident[EI_VERSION] or e_version
abbrev pub other_version : ℕ → Option ElfError
other_version n = refused_if (not (n == EV_CURRENT)) error.Version

-- the bytes do not begin with an identification
unfoldable pub no_ident : List ℕ → Option ElfError
no_ident image = first_refusal (
    refused_if (nat_lt (length image) EI_NIDENT) error.Short ∷
    refused_if (not (starts_with nat_eq image ELFMAG)) error.Magic ∷ [])

-- the class and the order of an image
unfoldable pub ident_in : List ℕ → Result (Class × Order) ElfError
ident_in image = do
  ident ← answered (no_ident image) image
  class ← or_refused (class_named (slice_index ident EI_CLASS)) error.Class
  order ← or_refused (order_named (slice_index ident EI_DATA)) error.Order
  answered (other_version (slice_index ident EI_VERSION)) (class, order)

-- the bytes of the identification from EI_PAD on
abbrev pub pad_in : List ℕ → List ℕ
pad_in image = take (EI_NIDENT - EI_PAD) (drop EI_PAD image)

-- the header as it stands, and those bytes
unfoldable pub header_at : Class → Order → List ℕ → Ehdr × List ℕ
header_at class order image = (ehdr_of class order (take (ehdr_size class) image), pad_in image)

-- the image is shorter than its header
abbrev pub no_header : Class → List ℕ → Option ElfError
no_header class image = refused_if (nat_lt (length image) (ehdr_size class)) error.Short

unfoldable pub header_in : List ℕ → Result (Ehdr × List ℕ) ElfError
header_in image = do
  id ← ident_in image
  answered (no_header id.0 image) (header_at id.0 id.1 image)

-- ---- The counts (extended numbering)

-- whether a count or the index stands in section 0
abbrev pub needs_first : Ehdr → Bool
needs_first h =
    not (h.shoff == 0) && (h.shnum == 0 || h.shstrndx == SHN_XINDEX || h.phnum == PN_XNUM)

-- a section header of zeros
unfoldable pub zero_shdr : Shdr
zero_shdr = record {
  name = 0;
  stype = 0;
  flags = 0;
  addr = 0;
  offset = 0;
  size = 0;
  link = 0;
  info = 0;
  addralign = 0;
  entsize = 0;
}

-- the header of section 0, where it is needed
unfoldable pub first_section : Ehdr → List ℕ → Shdr
first_section h image =
    if needs_first h then shdr_of h.class h.order (take (shdr_size h.class) (drop h.shoff image))
    else zero_shdr

unfoldable pub true_shnum : Ehdr → Shdr → ℕ
true_shnum h first = if not (h.shoff == 0) && h.shnum == 0 then first.size else h.shnum

-- without sections the string index is 0, whatever e_shstrndx is
unfoldable pub true_shstrndx : Ehdr → Shdr → ℕ
true_shstrndx h first =
    if true_shnum h first == 0 then 0
    else (if h.shstrndx == SHN_XINDEX then first.link else h.shstrndx)

unfoldable pub true_phnum : Ehdr → Shdr → ℕ
true_phnum h first = if h.phnum == PN_XNUM then first.info else h.phnum

-- the true counts and the true string index
abbrev pub true_counts : Ehdr → Shdr → Counts
true_counts h first = record {
  phnum = true_phnum h first;
  shnum = true_shnum h first;
  shstrndx = true_shstrndx h first;
}

-- whether so many entries of a size lie in the image from a place on
abbrev pub lies_in : ℕ → ℕ → ℕ → ℕ → Bool
lies_in len at count size = nat_le (at + count * size) len

-- whether the header of section 0 lies in an image of `len` bytes
abbrev pub first_lies_in : Ehdr → ℕ → Bool
first_lies_in h len = lies_in len h.shoff 1 (shdr_size h.class)

-- what is refused before section 0 is looked at
unfoldable pub header_refusal : Ehdr → ℕ → Option ElfError
header_refusal h len = first_refusal (
    other_version h.version ∷
    refused_if (nat_lt MAX_IMAGE len) error.TooLarge ∷
    refused_if (h.shoff == 0 && not (h.shnum == 0)) error.ShTable ∷
    refused_if (not (h.shoff == 0) && not (h.shentsize == shdr_size h.class)) error.ShTable ∷
    refused_if (needs_first h && not (first_lies_in h len)) error.ShTable ∷ [])

-- whether the tables with their true counts lie in an image of `len` bytes
abbrev pub shdrs_lie_in : Ehdr → Counts → ℕ → Bool
shdrs_lie_in h c len = lies_in len h.shoff c.shnum (shdr_size h.class)

abbrev pub phdrs_lie_in : Ehdr → Counts → ℕ → Bool
phdrs_lie_in h c len = lies_in len h.phoff c.phnum (phdr_size h.class)

-- what is refused by the true counts
unfoldable pub count_refusal : Ehdr → Counts → ℕ → Option ElfError
count_refusal h c len = first_refusal (
    refused_if (not (shdrs_lie_in h c len)) error.ShTable ∷
    refused_if (not (h.phnum == 0) && not (h.phentsize == phdr_size h.class)) error.PhTable ∷
    refused_if (h.phnum == PN_XNUM && h.shoff == 0) error.PhTable ∷
    refused_if (not (h.phnum == 0) && not (phdrs_lie_in h c len)) error.PhTable ∷
    refused_if (nat_lt MAX_SECTIONS c.shnum || nat_lt MAX_SEGMENTS c.phnum) error.TooMany ∷ [])

-- the true counts by the header of section 0, or what is refused by them
unfoldable pub counts_by : Ehdr → Shdr → ℕ → Result Counts ElfError
counts_by h first len = answered (count_refusal h (true_counts h first) len) (true_counts h first)

unfoldable pub counts_in : Ehdr → List ℕ → Result Counts ElfError
counts_in h image = do
  first ← answered (header_refusal h (length image)) (first_section h image)
  counts_by h first (length image)

-- ---- The front

-- the header with its true counts
abbrev pub with_counts : Ehdr → Counts → Ehdr
with_counts h c = record h { phnum = c.phnum; shnum = c.shnum; shstrndx = c.shstrndx }

-- the program headers; where there are none, e_phoff is not looked at
unfoldable pub phdrs_at : Ehdr → ℕ → List ℕ → List Phdr
phdrs_at h count image =
    items_of (phdr_of h.class h.order) (phdr_size h.class) count
    (take (count * phdr_size h.class) (drop h.phoff image))

-- the section headers
unfoldable pub shdrs_at : Ehdr → ℕ → List ℕ → List Shdr
shdrs_at h count image =
    items_of (shdr_of h.class h.order) (shdr_size h.class) count
    (take (count * shdr_size h.class) (drop h.shoff image))

abbrev pub front_with : Head → List Phdr → List Shdr → Front
front_with head phdrs shdrs = record {
  ehdr = with_counts head.header head.counts;
  pad = head.pad;
  written = head.header.phnum ∷ head.header.shnum ∷ head.header.shstrndx ∷ [];
  phdrs = phdrs;
  shdrs = shdrs;
}

unfoldable pub front_at : Head → List ℕ → Front
front_at head image =
    front_with head (phdrs_at head.header head.counts.phnum image)
    (shdrs_at head.header head.counts.shnum image)

-- the header and the true counts, or the first refusal of an image
unfoldable pub head_in : List ℕ → Result Head ElfError
head_in image = do
  header ← header_in image
  counts ← counts_in header.0 image
  Ok (record { header = header.0; pad = header.1; counts = counts })

-- the front of an image, or its first refusal
unfoldable pub front : List ℕ → Result Front ElfError
front image = do
  head ← head_in image
  Ok (front_at head image)

-- ---- What is asked for

-- the bytes of the two tables
abbrev pub table_bytes : Ehdr → Counts → ℕ
table_bytes h c = c.phnum * phdr_size h.class + c.shnum * shdr_size h.class

-- the class that an image names, or the one with the longer headers
abbrev pub class_or_longer : Option Class → Class
class_or_longer (Some class) = class
class_or_longer None = C64

-- the bytes of one header, and of one section header, by e_ident[EI_CLASS]
unfoldable pub header_bytes : List ℕ → ℕ
header_bytes image = ehdr_size (class_or_longer (class_named (slice_index image EI_CLASS)))

unfoldable pub first_bytes : List ℕ → ℕ
first_bytes image = shdr_size (class_or_longer (class_named (slice_index image EI_CLASS)))

-- how many bytes are asked for at most to read the front: a header and a section header, and, where
-- the front is no refusal, the two tables
unfoldable pub front_bytes : List ℕ → ℕ
front_bytes image =
    (header_bytes image + first_bytes image)
    + elim (head_in image) [ Ok head ↦ table_bytes head.header head.counts | Err e ↦ 0 ]

-- the same for any image
abbrev pub most_front_bytes : ℕ
most_front_bytes =
    (ehdr_size C64 + shdr_size C64) + (MAX_SEGMENTS * phdr_size C64 + MAX_SECTIONS * shdr_size C64)
