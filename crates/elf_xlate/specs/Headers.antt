-- The three headers (gABI chapter 4, "ELF Header" and "Section Header", chapter 5, "Program
-- Header"). Each has one table for both classes, by which it is read and written. A field has its
-- name there: place and width in class 32, and then in class 64.
use Rattle.std.specs.Prelude.{ℕ, ◌-◌, ◌^◌, ◌<◌, List, [], ◌∷◌, ◌++◌, length, take, drop, Bool, ◌&&◌, ◌≡◌}
use Rattle.std.proofs.Math.ListN.{replicate}
use Rattle.elf_types.specs.declared.constants.TheConstants.{EI_OSABI, EI_ABIVERSION, EI_NIDENT, ELFMAG, ELFCLASS32, ELFCLASS64, ELFDATA2LSB, ELFDATA2MSB, EV_CURRENT}
use Rattle.elf_types.specs.declared.records.Class.{Class}
use Rattle.elf_types.specs.declared.records.Class.TheVariants.{C32, C64}
use Rattle.elf_types.specs.declared.records.Order.{Order}
use Rattle.elf_types.specs.declared.records.Order.TheVariants.{Least, Greatest}
use Rattle.elf_types.specs.declared.records.Ehdr.{Ehdr}
use Rattle.elf_types.specs.declared.records.Phdr.{Phdr}
use Rattle.elf_types.specs.declared.records.Shdr.{Shdr}
use Rattle.elf_xlate.specs.Fields.{Field, field, number_in, laid, record_bytes, fits}

-- ---- The ELF header ("ELF Header")

abbrev pub ehdr_size : Class → ℕ
ehdr_size C32 = 52
ehdr_size C64 = 64

abbrev pub ei_osabi : Field
ei_osabi = field (EI_OSABI, 1) (EI_OSABI, 1)

abbrev pub ei_abiversion : Field
ei_abiversion = field (EI_ABIVERSION, 1) (EI_ABIVERSION, 1)

abbrev pub e_type : Field
e_type = field (16, 2) (16, 2)

abbrev pub e_machine : Field
e_machine = field (18, 2) (18, 2)

abbrev pub e_version : Field
e_version = field (20, 4) (20, 4)

abbrev pub e_entry : Field
e_entry = field (24, 4) (24, 8)

abbrev pub e_phoff : Field
e_phoff = field (28, 4) (32, 8)

abbrev pub e_shoff : Field
e_shoff = field (32, 4) (40, 8)

abbrev pub e_flags : Field
e_flags = field (36, 4) (48, 4)

abbrev pub e_ehsize : Field
e_ehsize = field (40, 2) (52, 2)

abbrev pub e_phentsize : Field
e_phentsize = field (42, 2) (54, 2)

abbrev pub e_phnum : Field
e_phnum = field (44, 2) (56, 2)

abbrev pub e_shentsize : Field
e_shentsize = field (46, 2) (58, 2)

abbrev pub e_shnum : Field
e_shnum = field (48, 2) (60, 2)

abbrev pub e_shstrndx : Field
e_shstrndx = field (50, 2) (62, 2)

unfoldable pub ehdr_fields : List Field
ehdr_fields =
    ei_osabi ∷ ei_abiversion ∷ e_type ∷ e_machine ∷ e_version ∷ e_entry ∷ e_phoff ∷ e_shoff ∷
    e_flags ∷ e_ehsize ∷ e_phentsize ∷ e_phnum ∷ e_shentsize ∷ e_shnum ∷ e_shstrndx ∷ []

abbrev pub ehdr_numbers : Ehdr → List ℕ
ehdr_numbers h =
    h.osabi ∷ h.abiversion ∷ h.etype ∷ h.machine ∷ h.version ∷ h.entry ∷ h.phoff ∷ h.shoff ∷ h.flags
    ∷ h.ehsize ∷ h.phentsize ∷ h.phnum ∷ h.shentsize ∷ h.shnum ∷ h.shstrndx ∷ []

-- the header that bytes hold, with the counts and the string index as they stand there
unfoldable pub ehdr_of : Class → Order → List ℕ → Ehdr
ehdr_of class order bytes = record {
  class = class;
  order = order;
  osabi = number_in class order bytes ei_osabi;
  abiversion = number_in class order bytes ei_abiversion;
  etype = number_in class order bytes e_type;
  machine = number_in class order bytes e_machine;
  version = number_in class order bytes e_version;
  entry = number_in class order bytes e_entry;
  phoff = number_in class order bytes e_phoff;
  shoff = number_in class order bytes e_shoff;
  flags = number_in class order bytes e_flags;
  ehsize = number_in class order bytes e_ehsize;
  phentsize = number_in class order bytes e_phentsize;
  phnum = number_in class order bytes e_phnum;
  shentsize = number_in class order bytes e_shentsize;
  shnum = number_in class order bytes e_shnum;
  shstrndx = number_in class order bytes e_shstrndx;
}

-- e_ident[EI_CLASS]
abbrev pub class_code : Class → ℕ
class_code C32 = ELFCLASS32
class_code C64 = ELFCLASS64

-- e_ident[EI_DATA]
abbrev pub order_code : Order → ℕ
order_code Least = ELFDATA2LSB
order_code Greatest = ELFDATA2MSB

-- the identification but for osabi and abiversion, which are 0 in it; `pad` is its bytes 9 to 15
-- ("ELF Identification")
unfoldable pub ident : Class → Order → List ℕ → List ℕ
ident class order pad = ELFMAG ++ (class_code class ∷ order_code order ∷ EV_CURRENT ∷ 0 ∷ 0 ∷ pad)

-- the bytes of a header
unfoldable pub ehdr_bytes : Ehdr → List ℕ → List ℕ
ehdr_bytes h pad =
    laid h.class h.order ehdr_fields (ehdr_numbers h)
    (ident h.class h.order pad ++ replicate (ehdr_size h.class - EI_NIDENT) 0)

unfoldable pub ehdr_fits : Ehdr → Bool
ehdr_fits h = fits h.class h.entry && fits h.class h.phoff && fits h.class h.shoff

-- the two counts and the string index are those of a header's bytes
pub record HasNarrowCounts (h : Ehdr) : Type 0 where
  pub phnum : h.phnum < 2 ^ 16
  pub shnum : h.shnum < 2 ^ 16
  pub shstrndx : h.shstrndx < 2 ^ 16

-- each field is in the range of its type
pub record IsEhdr (h : Ehdr) : Type 0 where
  pub osabi : h.osabi < 2 ^ 8
  pub abiversion : h.abiversion < 2 ^ 8
  pub etype : h.etype < 2 ^ 16
  pub machine : h.machine < 2 ^ 16
  pub version : h.version < 2 ^ 32
  pub entry : h.entry < 2 ^ 64
  pub phoff : h.phoff < 2 ^ 64
  pub shoff : h.shoff < 2 ^ 64
  pub flags : h.flags < 2 ^ 32
  pub ehsize : h.ehsize < 2 ^ 16
  pub phentsize : h.phentsize < 2 ^ 16
  pub phnum : h.phnum < 2 ^ 32
  pub shentsize : h.shentsize < 2 ^ 16
  pub shnum : h.shnum < 2 ^ 32
  pub shstrndx : h.shstrndx < 2 ^ 32

-- bytes are those of a header, whose identification has that pad
pub record HoldsEhdr (h : Ehdr) (pad bytes : List ℕ) : Type 0 where
  pub size : length bytes ≡ ehdr_size h.class
  pub start : take 7 bytes ≡ take 7 (ident h.class h.order pad)
  pub pad_is : take 7 (drop 9 bytes) ≡ pad
  pub value : ehdr_of h.class h.order bytes ≡ h

-- ---- Program headers ("Program Header")

abbrev pub phdr_size : Class → ℕ
phdr_size C32 = 32
phdr_size C64 = 56

abbrev pub p_type : Field
p_type = field (0, 4) (0, 4)

abbrev pub p_flags : Field
p_flags = field (24, 4) (4, 4)

abbrev pub p_offset : Field
p_offset = field (4, 4) (8, 8)

abbrev pub p_vaddr : Field
p_vaddr = field (8, 4) (16, 8)

abbrev pub p_paddr : Field
p_paddr = field (12, 4) (24, 8)

abbrev pub p_filesz : Field
p_filesz = field (16, 4) (32, 8)

abbrev pub p_memsz : Field
p_memsz = field (20, 4) (40, 8)

abbrev pub p_align : Field
p_align = field (28, 4) (48, 8)

unfoldable pub phdr_fields : List Field
phdr_fields =
    p_type ∷ p_flags ∷ p_offset ∷ p_vaddr ∷ p_paddr ∷ p_filesz ∷ p_memsz ∷ p_align ∷ []

abbrev pub phdr_numbers : Phdr → List ℕ
phdr_numbers p =
    p.ptype ∷ p.flags ∷ p.offset ∷ p.vaddr ∷ p.paddr ∷ p.filesz ∷ p.memsz ∷ p.align ∷ []

-- the program header that bytes hold
unfoldable pub phdr_of : Class → Order → List ℕ → Phdr
phdr_of class order bytes = record {
  ptype = number_in class order bytes p_type;
  flags = number_in class order bytes p_flags;
  offset = number_in class order bytes p_offset;
  vaddr = number_in class order bytes p_vaddr;
  paddr = number_in class order bytes p_paddr;
  filesz = number_in class order bytes p_filesz;
  memsz = number_in class order bytes p_memsz;
  align = number_in class order bytes p_align;
}

-- the bytes of a program header
unfoldable pub phdr_bytes : Class → Order → Phdr → List ℕ
phdr_bytes class order p = record_bytes class order (phdr_size class) phdr_fields (phdr_numbers p)

unfoldable pub phdr_fits : Class → Phdr → Bool
phdr_fits class p =
    fits class p.offset && fits class p.vaddr && fits class p.paddr && fits class p.filesz
    && fits class p.memsz && fits class p.align

-- each field is in the range of its type
pub record IsPhdr (p : Phdr) : Type 0 where
  pub ptype : p.ptype < 2 ^ 32
  pub flags : p.flags < 2 ^ 32
  pub offset : p.offset < 2 ^ 64
  pub vaddr : p.vaddr < 2 ^ 64
  pub paddr : p.paddr < 2 ^ 64
  pub filesz : p.filesz < 2 ^ 64
  pub memsz : p.memsz < 2 ^ 64
  pub align : p.align < 2 ^ 64

-- ---- Section headers ("Section Header")

abbrev pub shdr_size : Class → ℕ
shdr_size C32 = 40
shdr_size C64 = 64

abbrev pub sh_name : Field
sh_name = field (0, 4) (0, 4)

abbrev pub sh_type : Field
sh_type = field (4, 4) (4, 4)

abbrev pub sh_flags : Field
sh_flags = field (8, 4) (8, 8)

abbrev pub sh_addr : Field
sh_addr = field (12, 4) (16, 8)

abbrev pub sh_offset : Field
sh_offset = field (16, 4) (24, 8)

abbrev pub sh_size : Field
sh_size = field (20, 4) (32, 8)

abbrev pub sh_link : Field
sh_link = field (24, 4) (40, 4)

abbrev pub sh_info : Field
sh_info = field (28, 4) (44, 4)

abbrev pub sh_addralign : Field
sh_addralign = field (32, 4) (48, 8)

abbrev pub sh_entsize : Field
sh_entsize = field (36, 4) (56, 8)

unfoldable pub shdr_fields : List Field
shdr_fields =
    sh_name ∷ sh_type ∷ sh_flags ∷ sh_addr ∷ sh_offset ∷ sh_size ∷ sh_link ∷ sh_info ∷
    sh_addralign ∷ sh_entsize ∷ []

abbrev pub shdr_numbers : Shdr → List ℕ
shdr_numbers h =
    h.name ∷ h.stype ∷ h.flags ∷ h.addr ∷ h.offset ∷ h.size
    ∷ h.link ∷ h.info ∷ h.addralign ∷ h.entsize ∷ []

-- the section header that bytes hold
unfoldable pub shdr_of : Class → Order → List ℕ → Shdr
shdr_of class order bytes = record {
  name = number_in class order bytes sh_name;
  stype = number_in class order bytes sh_type;
  flags = number_in class order bytes sh_flags;
  addr = number_in class order bytes sh_addr;
  offset = number_in class order bytes sh_offset;
  size = number_in class order bytes sh_size;
  link = number_in class order bytes sh_link;
  info = number_in class order bytes sh_info;
  addralign = number_in class order bytes sh_addralign;
  entsize = number_in class order bytes sh_entsize;
}

-- the bytes of a section header
unfoldable pub shdr_bytes : Class → Order → Shdr → List ℕ
shdr_bytes class order h = record_bytes class order (shdr_size class) shdr_fields (shdr_numbers h)

unfoldable pub shdr_fits : Class → Shdr → Bool
shdr_fits class h =
    fits class h.flags && fits class h.addr && fits class h.offset && fits class h.size
    && fits class h.addralign && fits class h.entsize

-- each field is in the range of its type
pub record IsShdr (h : Shdr) : Type 0 where
  pub name : h.name < 2 ^ 32
  pub stype : h.stype < 2 ^ 32
  pub flags : h.flags < 2 ^ 64
  pub addr : h.addr < 2 ^ 64
  pub offset : h.offset < 2 ^ 64
  pub size : h.size < 2 ^ 64
  pub link : h.link < 2 ^ 32
  pub info : h.info < 2 ^ 32
  pub addralign : h.addralign < 2 ^ 64
  pub entsize : h.entsize < 2 ^ 64
