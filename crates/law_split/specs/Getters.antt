-- What the getters answer of two images that are the same but for places and derived values
-- (elf(3E), gelf(3E), elf_hash(3E)).
use Rattle.std.specs.Prelude.{◌≡◌, ℕ, Bool, List, Ok}
use Rattle.elf_types.specs.declared.records.Part.{Part}
use Rattle.elf_ident.specs.Front.{zero_shdr}
use Rattle.elf_object.specs.Object.{Object}
use Rattle.elf_object.specs.Open.{opened}
use Rattle.elf_object.specs.Sections.{header_at}
use Rattle.elf_object.specs.Calls.{Call}
use Rattle.elf_object.specs.Calls as calls
use Rattle.elf_object.specs.Strings.{strptr, section_name}
use Rattle.rebuild_model.specs.KeepingLaws.{SameButPlaces}
use Rattle.symbol_lookup.specs.gelf_view.Calls as views
use Rattle.symbol_lookup.specs.Lookups as lookups

-- a call answers the same
abbrev pub Alike : {A : Type 0} → Call A → Object → Object → Type 0
Alike call a b = call.answer a ≡ call.answer b

-- each getter does that tells neither a place nor a derived value: the counts, the string index,
-- program headers, flags and the fill byte, elf_getdata and what it tells of a piece, elf_rawdata,
-- gelf_getsym and its like, notes and version records, the section of a symbol, elf_strptr, the
-- names of sections, and the lookups of a name
pub record SameAnswers (a b : Object) : Type 0 where
  pub phnum : Alike calls.phnum a b
  pub shnum : Alike calls.shnum a b
  pub shstrndx : Alike calls.shstrndx a b
  pub phdr : (i : ℕ) → Alike (calls.phdr i) a b
  pub flags : (part : Part) → Alike (calls.flags part) a b
  pub fill : Alike calls.fill a b
  pub pieces : (s : ℕ) → Alike (calls.pieces s) a b
  pub piece_kind : (s p : ℕ) → Alike (calls.piece_kind s p) a b
  pub piece_align : (s p : ℕ) → Alike (calls.piece_align s p) a b
  pub section_data : (s p : ℕ) → Alike (calls.section_data s p) a b
  pub raw : (s : ℕ) → Alike (calls.raw s) a b
  pub half : (s p i : ℕ) → Alike (calls.half s p i) a b
  pub word : (s p i : ℕ) → Alike (calls.word s p i) a b
  pub addr : (s p i : ℕ) → Alike (calls.addr s p i) a b
  pub sym : (s p i : ℕ) → Alike (calls.sym s p i) a b
  pub rel : (s p i : ℕ) → Alike (calls.rel s p i) a b
  pub rela : (s p i : ℕ) → Alike (calls.rela s p i) a b
  pub dynent : (s p i : ℕ) → Alike (calls.dynent s p i) a b
  pub note : (s p at : ℕ) → Alike (views.note s p at) a b
  pub first_entry : (s p : ℕ) → Alike (views.first_entry s p) a b
  pub verdef : (s p at : ℕ) → Alike (views.verdef s p at) a b
  pub verdaux : (s p at : ℕ) → Alike (views.verdaux s p at) a b
  pub verneed : (s p at : ℕ) → Alike (views.verneed s p at) a b
  pub vernaux : (s p at : ℕ) → Alike (views.vernaux s p at) a b
  pub symshndx : (told : Bool) (s p i : ℕ) → Alike (views.symbol_shndx_place told s p i) a b
  pub strptr : (s offset : ℕ) → Alike (strptr s offset) a b
  pub name : (s : ℕ) → section_name a s ≡ section_name b s
  pub find_linear : (s : ℕ) (name : List ℕ) → Alike (lookups.find_linear s name) a b
  pub find_sysv : (h : ℕ) (name : List ℕ) → Alike (lookups.find_sysv h name) a b
  pub find_gnu : (h : ℕ) (name : List ℕ) → Alike (lookups.find_gnu h name) a b

-- section 0 of the first one is all zero but for size, link and info, as that of the other one is
abbrev pub AlikeImagesAnswerAlike : Type 0
AlikeImagesAnswerAlike =
    (image out : List ℕ) (a b : Object) → opened image ≡ Ok a → opened out ≡ Ok b
    → record (header_at a 0) { size = 0; link = 0; info = 0 } ≡ zero_shdr
    → SameButPlaces a b → SameAnswers a b
