-- What is known of the parts of a front that were read. What is said of bytes holds where the
-- source tells them, and all else for every source.
use Rattle.std.specs.Prelude.{◌≡◌, ◌≢◌, ◌+◌, ◌*◌, ◌^◌, ◌-◌, ◌<◌, ◌≤◌, ◌⊎◌, List, [], ℕ, length, take, drop, IsTrue, Result, Ok, Err}
use Rattle.std.specs.List.{All}
use Rattle.elf_types.specs.declared.constants.TheConstants.{EI_NIDENT, EI_PAD, EV_CURRENT, MAX_IMAGE, MAX_SECTIONS, MAX_SEGMENTS}
use Rattle.elf_types.specs.declared.records.Class.{Class}
use Rattle.elf_types.specs.declared.records.Class.TheVariants.{C64}
use Rattle.elf_types.specs.declared.records.Ehdr.{Ehdr}
use Rattle.elf_types.specs.declared.records.Phdr.{Phdr}
use Rattle.elf_types.specs.declared.records.Shdr.{Shdr}
use Rattle.elf_types.specs.declared.errors.ElfError.{ElfError}
use Rattle.elf_types.specs.declared.errors.ElfError.TheVariants.{Memory, Read, Short, Magic, Version, PhTable, ShTable, TooLarge, TooMany}
use Rattle.elf_types.specs.declared.errors.ElfError.TheVariants.{Class as Class_error, Order as Order_error}
use Rattle.elf_xlate.specs.Headers.{ehdr_size, ehdr_fits, phdr_size, phdr_fits, shdr_size, shdr_fits, HasNarrowCounts, IsEhdr, IsPhdr, IsShdr}
use Rattle.elf_ident.specs.declared.counts.Counts.{Counts}
use Rattle.elf_ident.specs.declared.fronts.Head.{Head}
use Rattle.elf_ident.specs.declared.fronts.Front.{Front}
use Rattle.elf_ident.specs.Front.{with_counts}

-- ---- The bytes of a header

-- the identification's bytes are the image's
pub record HasStart (image start : List ℕ) : Type 0 where
  pub long : EI_NIDENT ≤ length image
  pub bytes : start ≡ take EI_NIDENT image

-- the bytes of the header after the identification are the image's
pub record HasHeader (image : List ℕ) (size : ℕ) (rest : List ℕ) : Type 0 where
  pub long : size ≤ length image
  pub bytes : take (size - EI_NIDENT) rest ≡ take (size - EI_NIDENT) (drop EI_NIDENT image)

-- they were read, or the image is too short for them
abbrev pub HasRest : List ℕ → Class → Result (Unit {0}) ElfError → List ℕ → Type 0
HasRest image class (Ok _) rest = HasHeader image (ehdr_size class) rest
HasRest image class (Err Short) rest = length image < ehdr_size class
HasRest image class (Err Read) rest = Unit {0}
HasRest image class (Err e) rest = ⊥

-- ---- The header and the counts

-- a header as it stands in an image, and the bytes of its identification from EI_PAD on
pub record IsStored (h : Ehdr) (pad : List ℕ) : Type 0 where
  pub range : IsEhdr h
  pub fitting : IsTrue (ehdr_fits h)
  pub narrow : HasNarrowCounts h
  pub pad_size : length pad ≡ EI_NIDENT - EI_PAD
  pub pad_bytes : All (λ n. n < 2 ^ 8) pad

-- the tables of a header with its true counts lie in an image of `len` bytes; where there are no
-- program headers, e_phoff is not looked at
pub record HasTables (h : Ehdr) (len : ℕ) : Type 0 where
  pub shdrs : h.shoff + h.shnum * shdr_size h.class ≤ len
  pub phdrs : h.phnum ≢ 0 → h.phoff + h.phnum * phdr_size h.class ≤ len

-- the true counts of a header in an image of `len` bytes, where they are not refused
pub record AreCounts (h : Ehdr) (len : ℕ) (c : Counts) : Type 0 where
  pub tables : HasTables (with_counts h c) len
  pub string_index : c.shnum ≡ 0 → c.shstrndx ≡ 0
  pub few_shdrs : c.shnum ≤ MAX_SECTIONS
  pub few_phdrs : c.phnum ≤ MAX_SEGMENTS

-- a header and its counts that are not refused
pub record IsSound (head : Head) (len : ℕ) : Type 0 where
  pub header : IsStored head.header head.pad
  pub version : head.header.version ≡ EV_CURRENT
  pub counts : AreCounts head.header len head.counts

-- ---- The tables

-- so many program headers of a class
pub record IsPhdrTable (class : Class) (count : ℕ) (phdrs : List Phdr) : Type 0 where
  pub counted : length phdrs ≡ count
  pub range : All IsPhdr phdrs
  pub fitting : All (λ p. IsTrue (phdr_fits class p)) phdrs

-- so many section headers of a class
pub record IsShdrTable (class : Class) (count : ℕ) (shdrs : List Shdr) : Type 0 where
  pub counted : length shdrs ≡ count
  pub range : All IsShdr shdrs
  pub fitting : All (λ h. IsTrue (shdr_fits class h)) shdrs

-- ---- The front

-- each number of a front is in the range of its type and fits the class; the version is the current
-- one, and without sections the string index is 0
pub record IsFittingFront (f : Front) : Type 0 where
  pub header : IsEhdr f.ehdr
  pub fitting : IsTrue (ehdr_fits f.ehdr)
  pub version : f.ehdr.version ≡ EV_CURRENT
  pub phdrs : All IsPhdr f.phdrs
  pub fitting_phdrs : All (λ p. IsTrue (phdr_fits f.ehdr.class p)) f.phdrs
  pub shdrs : All IsShdr f.shdrs
  pub fitting_shdrs : All (λ h. IsTrue (shdr_fits f.ehdr.class h)) f.shdrs
  pub string_index : f.shdrs ≡ [] → f.ehdr.shstrndx ≡ 0
  pub pad : length f.pad ≡ EI_NIDENT - EI_PAD
  pub pad_bytes : All (λ n. n < 2 ^ 8) f.pad

-- the lists of a front are as long as its header says, and no longer than is allowed
pub record IsCounted (f : Front) : Type 0 where
  pub phnum : length f.phdrs ≡ f.ehdr.phnum
  pub shnum : length f.shdrs ≡ f.ehdr.shnum
  pub few_phdrs : f.ehdr.phnum ≤ MAX_SEGMENTS
  pub few_shdrs : f.ehdr.shnum ≤ MAX_SECTIONS

-- ---- The refusals that may come where a source of `len` bytes does not tell them

-- those of the header
abbrev pub IsHeaderRefusal : ℕ → ElfError → Type 0
IsHeaderRefusal len Read = Unit {0}
IsHeaderRefusal len Short = len < ehdr_size C64
IsHeaderRefusal len Magic = Unit {0}
IsHeaderRefusal len Class_error = Unit {0}
IsHeaderRefusal len Order_error = Unit {0}
IsHeaderRefusal len Version = Unit {0}
IsHeaderRefusal len e = ⊥

-- those of the counts
abbrev pub IsCountRefusal : ℕ → ElfError → Type 0
IsCountRefusal len Read = Unit {0}
IsCountRefusal len Version = Unit {0}
IsCountRefusal len TooLarge = MAX_IMAGE < len
IsCountRefusal len ShTable = Unit {0}
IsCountRefusal len PhTable = Unit {0}
IsCountRefusal len TooMany = Unit {0}
IsCountRefusal len e = ⊥

-- those of the whole front, each of whose tables may want memory
abbrev pub IsFrontRefusal : ℕ → ElfError → Type 0
IsFrontRefusal len e = (e ≡ Memory) ⊎ (IsHeaderRefusal len e ⊎ IsCountRefusal len e)
