-- A descriptor that begins over a source (elf_begin, elf(3E); gABI chapter 4, "Object Files").
use Rattle.std.specs.Prelude.{◌≡◌, ◌≤◌, ℕ, Bool, false, List, length, map, slice_get, Option, Some, None, is_some, IfSome, Result, Ok, Err}
use Rattle.elf_types.specs.declared.constants.TheConstants.{MAX_IMAGE}
use Rattle.elf_types.specs.declared.records.Ehdr.{Ehdr}
use Rattle.elf_types.specs.declared.records.Phdr.{Phdr}
use Rattle.elf_types.specs.declared.records.Shdr.{Shdr}
use Rattle.elf_types.specs.declared.errors.ElfError.{ElfError}
use Rattle.section_table.specs.elf_outside.declared.sources.Source.{Ghosts}
use Rattle.section_table.specs.elf_ident.declared.fronts.Front.{Front}
use Rattle.section_table.specs.elf_ident.Reading.{IsFittingFront, IsCounted, HasTables}
use Rattle.section_table.specs.elf_object.Object.{Object}
use Rattle.section_table.specs.elf_object.Open.{begun, opened, standing_header}
use Rattle.elf_types.specs.Lists.{AreBytes}
use Rattle.section_table.specs.Sections.{SectionView as Scn}
use Rattle.elf_descriptor.specs.declared.body.Body.{Body}
use Rattle.elf_descriptor.specs.declared.body.Written.{Written}
use Rattle.elf_descriptor.specs.declared.body.Base.TheVariants as bases
use Rattle.elf_descriptor.specs.State.{State}
use Rattle.elf_descriptor.specs.Views.{object_of, loaded_of, held_of, room_of, source_bytes, ready_of, HasCounts}
use Rattle.elf_descriptor.specs.Sound.{CellIn, IsSound, IsStanding}

-- ---- What the program keeps

-- a front as it stands in the image
abbrev pub standing_front : Front → Written
standing_front f =
    record { header = standing_header f; pad = f.pad; phdrs = f.phdrs; shdrs = f.shdrs }

-- all of an object with this front and these parts over a source of `size` bytes; nothing is marked
abbrev pub begun_body : ℕ → Ehdr → Written → List Phdr → List Scn → Body
begun_body size header front phdrs sections = record {
  header = header;
  pad = front.pad;
  phdrs = phdrs;
  sections = sections;
  base = bases.Source size;
  written = Some front;
  spare = None;
  layout = false;
  fill = 0;
  marked = false;
  header_marked = false;
  segments_marked = false;
  ready = false;
}

-- all of the object that a front begins, with these sections
unfoldable pub opened_body : ℕ → Front → List Scn → Body
opened_body size f sections = begun_body size f.ehdr (standing_front f) f.phdrs sections

-- for each section header, that something of its section is held or kept aside: nothing is
abbrev pub none_held : List Shdr → List Bool
none_held headers = map (λ h. false) headers

-- what a front begins over a source of `size` bytes, whatever bytes it tells: its object, of which
-- nothing is read
pub record IsOpened (f : Front) (size : ℕ) (b : Body) : Type 0 where
  pub object : (image : Option (List ℕ)) → IfSome image (λ bytes. length bytes ≡ size)
      → object_of image size b ≡ begun f (source_bytes image size)
  pub counts : HasCounts b
  pub cells : (i : ℕ) (s : Scn) → slice_get b.sections i ≡ Some s
      → CellIn b.header.class b.header.order b.base i s
  pub loaded : loaded_of b ≡ none_held f.shdrs
  pub held : held_of b ≡ none_held f.shdrs
  pub room : room_of b ≡ none_held f.shdrs
  pub base : b.base ≡ bases.Source size
  pub written : IsFittingFront f → IfSome b.written (IsStanding f.ehdr.class f.ehdr.order)
  pub ready : ready_of b ≡ false
  pub header : b.header ≡ f.ehdr

-- ---- The descriptor

-- the descriptor over a source that a front begins
unfoldable pub begun_state : {S : Type 0} → Ghosts S → Front → S → State S
begun_state g f source = record {
  o = begun f (source_bytes (g.holds source) (g.size source));
  told = is_some (g.holds source);
  loaded = none_held f.shdrs;
  held = none_held f.shdrs;
  room = none_held f.shdrs;
  ready = false;
  source = source;
}

-- What a front begins is an object. Where the source tells bytes that have this front, it is that
-- of its base, and what is not dirty stands there.
abbrev pub BegunIsSound : Type 0
BegunIsSound =
    (f : Front) (image : Option (List ℕ)) (size : ℕ) → IsFittingFront f → IsCounted f
    → size ≤ MAX_IMAGE
    → IfSome image (λ bytes. length bytes ≡ size)
    → IfSome image AreBytes
    → IfSome image (λ bytes. opened bytes ≡ Ok (begun f bytes))
    → IsSound image (begun f (source_bytes image size))

-- it has begun over that source: a front of its length, each number of which fits, begins it
pub record IsBegun {S : Type 0} (g : Ghosts S) (source : S) (e : State S) : Type 0 where
  pub front : Front
  pub fitting : IsFittingFront front
  pub counted : IsCounted front
  pub tables : HasTables front.ehdr (g.size source)
  pub small : g.size source ≤ MAX_IMAGE
  pub state : e ≡ begun_state g front e.source

-- ---- The answer of a call that begins a descriptor, or hands its source back with a refusal

-- its object, or the refusal
abbrev pub begun_answer : {S : Type 0} → Result (State S) (S × ElfError) → Result Object ElfError
begun_answer (Ok e) = Ok e.o
begun_answer (Err back) = Err back.1

-- the source afterwards
abbrev pub source_after : {S : Type 0} → Result (State S) (S × ElfError) → S
source_after (Ok e) = e.source
source_after (Err back) = back.0
