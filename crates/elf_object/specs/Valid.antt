-- What makes an object: header and section headers are in the range of their types and fit, the
-- lists are within their limits, and the home piece fits its home. Every step keeps it. Nothing is
-- said of the numbers in program headers and in own items, which a borrower may have left: a file
-- form takes their lowest bytes.
use Rattle.std.specs.Prelude.{◌≡◌, ℕ, ◌-◌, ◌^◌, ◌<◌, ◌≤◌, true, false, List, [], ◌∷◌, length, All, IfSome, IsSome, IsTrue, Ok}
use Rattle.elf_types.specs.Lists.{AreBytes}
use Rattle.elf_types.specs.declared.records.Class.{Class}
use Rattle.elf_types.specs.declared.records.Kind.TheVariants as kinds
use Rattle.elf_types.specs.declared.constants.TheConstants.{EI_NIDENT, EI_PAD, MAX_SECTIONS, MAX_SEGMENTS, MAX_PIECES}
use Rattle.elf_ident.specs.elf_xlate.Headers.{IsEhdr, IsShdr, ehdr_fits, shdr_fits}
use Rattle.elf_object.specs.Object.{Object, Section, Piece, Home, is_dirty}
use Rattle.elf_object.specs.Open.{opened}
use Rattle.elf_object.specs.Calls.{Call, step, is_piece_align}

-- a home: where it lies in the file its bytes are as many as it is long, where it does not there
-- are none, and a home of no kind is empty
pub record IsHome (home : Home) (raw : List ℕ) : Type 0 where
  pub at : home.at < 2 ^ 64
  pub len : home.len < 2 ^ 64
  pub inside : home.out ≡ false → length raw ≡ home.len
  pub outside : home.out ≡ true → raw ≡ []
  pub empty : home.kind ≡ kinds.Empty → home.len ≡ 0
  pub bytes : AreBytes raw

-- a piece: an own one is marked
pub record IsPiece (p : Piece) : Type 0 where
  pub align : IsTrue (is_piece_align p.align)
  pub own : IfSome p.own (λ items. IsTrue p.marked)

-- a piece after the first is own: the home piece stands first
abbrev pub OthersOwn : List Piece → Type 0
OthersOwn [] = Unit {0}
OthersOwn (first ∷ others) = All (λ p. IsSome p.own) others

pub record IsSection (class : Class) (s : Section) : Type 0 where
  pub header : IsShdr s.header
  pub fitting : IsTrue (shdr_fits class s.header)
  pub home : IsHome s.home s.raw
  pub pieces : All IsPiece s.pieces
  pub others : OthersOwn s.pieces
  pub piece_count : length s.pieces ≤ MAX_PIECES

pub record IsObject (o : Object) : Type 0 where
  pub header : IsEhdr o.header
  pub fitting : IsTrue (ehdr_fits o.header)
  pub phnum : o.header.phnum ≡ length o.phdrs
  pub shnum : o.header.shnum ≡ length o.sections
  pub pad : length o.pad ≡ EI_NIDENT - EI_PAD
  pub pad_bytes : AreBytes o.pad
  pub phdr_count : length o.phdrs ≤ MAX_SEGMENTS
  pub sections : All (IsSection o.header.class) o.sections
  pub section_count : length o.sections ≤ MAX_SECTIONS
  pub string_index : o.sections ≡ [] → o.header.shstrndx ≡ 0
  pub base : AreBytes o.base
  pub base_length : length o.base < 2 ^ 64
  pub fill : o.fill < 2 ^ 8

-- a call keeps it
abbrev pub KeepsObject : {A : Type 0} → Call A → Type 0
KeepsObject c = (o : Object) → IsObject o → IsObject (step c o)

-- the object as an image that is opened gives it: without ELF_F_LAYOUT, and with fill byte 0
abbrev pub as_opened : Object → Object
as_opened o = record o { layout = false; fill = 0 }

-- an object in which nothing is dirty is that of its base. It holds of an object over a source that
-- tells its bytes.
abbrev pub IsTied : Object → Type 0
IsTied o = is_dirty o ≡ false → opened o.base ≡ Ok (as_opened o)

-- a call keeps it
abbrev pub KeepsTied : {A : Type 0} → Call A → Type 0
KeepsTied c = (o : Object) → IsTied o → IsTied (step c o)
