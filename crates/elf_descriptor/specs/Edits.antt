-- What an edit that reads nothing leaves of a descriptor (elf_update, ELF_F_DIRTY).
use Rattle.std.specs.Prelude.{◌≡◌, ℕ, ◌<◌, Bool, false, List, [], ◌++◌, ◌-◌, ◌==◌, length, map, Option, Result, Ok, Err, if◌then◌else◌}
use Rattle.std.specs.List.{range_with_len}
use Rattle.std.proofs.Math.ListN.{replicate}
use Rattle.elf_types.specs.declared.records.DataId.{DataId}
use Rattle.elf_types.specs.declared.records.ScnId.{ScnId}
use Rattle.elf_types.specs.declared.records.Part.{Part}
use Rattle.elf_types.specs.declared.records.Part.TheVariants as part
use Rattle.elf_types.specs.declared.errors.ElfError.{ElfError}
use Rattle.section_table.specs.elf_object.Object.{Object, new_section}
use Rattle.section_table.specs.elf_object.Steps.{with_sections}
use Rattle.section_table.specs.elf_object.Calls.{Call}
use Rattle.section_table.specs.elf_object.Calls as calls
use Rattle.section_table.specs.elf_object.Words.{Edits, EditsWith}
use Rattle.section_table.specs.section_data.Views.{CellView}
use Rattle.section_table.specs.Sections.{SectionView as Scn, new_scn}
use Rattle.elf_descriptor.specs.declared.body.Body.{Body}
use Rattle.elf_descriptor.specs.State.{State}
use Rattle.elf_descriptor.specs.Views.{object_of, scn_at, ready_of, has_mark}

-- ---- The descriptor

-- after an edit: an update may want memory again
abbrev pub stepped : {S A : Type 0} → Call A → State S → State S
stepped c s = record s { o = c.after s.o; ready = false }

-- after a call on flags, which keeps that an update wants none
abbrev pub flagged : {S A : Type 0} → Call A → State S → State S
flagged c s = record s { o = c.after s.o }

-- what an edit leaves: the stepped state, or where it is refused the state as it was
abbrev pub StepsTo : {A E S : Type 0} → Result A E → S → S → S → Type 0
StepsTo (Ok x) old new stepped = new ≡ stepped
StepsTo (Err e) old new stepped = new ≡ old

-- ---- What the program keeps

-- a section's data but for its pieces
abbrev pub without_pieces : Scn → CellView
without_pieces s = record s.cell { pieces = [] }

-- what is held of each section's home
unfoldable pub homes_of : Body → List CellView
homes_of b = map without_pieces b.sections

-- a step of the object, whatever its source tells; of the homes nothing changes, and a mark stays
pub record IsStepped (after : Object → Object) (stays_ready : Bool) (old new : Body) : Type 0 where
  pub object : (image : Option (List ℕ)) (size : ℕ)
      → object_of image size new ≡ after (object_of image size old)
  pub homes : homes_of new ≡ homes_of old
  pub class : new.header.class ≡ old.header.class
  pub order : new.header.order ≡ old.header.order
  pub base : new.base ≡ old.base
  pub written : new.written ≡ old.written
  pub marks : has_mark new ≡ false → has_mark old ≡ false
  pub ready : ready_of new ≡ stays_ready

-- the part is there
abbrev pub IsThere : Body → Part → Type 0
IsThere b (part.Section s) = s < length b.sections
IsThere b (part.Piece s p) =
    (s < length b.sections) × (p < length (scn_at b s).cell.pieces)
IsThere b _ = Unit {0}

-- a section's data has its number
abbrev pub IsNumbered : Body → ℕ → Type 0
IsNumbered b s = s < length b.sections → (scn_at b s).cell.section ≡ s

-- a section's number
abbrev pub section_number : ScnId → ℕ
section_number s = s.0

-- a piece's section and number
abbrev pub numbers_of : DataId → ℕ × ℕ
numbers_of d = (d.section, d.piece)

-- the answer of an edit, whatever it leaves: the stated one, or Memory where nothing is refused
abbrev pub IsStated : {A : Type 0} → Result A ElfError → Result A ElfError → Type 0
IsStated result stated = Edits result (tt {0}) (tt {0}) stated (tt {0})

-- of an edit that hands back what was handed in
abbrev pub IsStatedWith : {A B : Type 0} → Result A (B × ElfError) → B → Result A ElfError → Type 0
IsStatedWith result items stated = EditsWith result items (tt {0}) (tt {0}) stated (tt {0})

-- ---- Sections that are added

-- so many new sections, with the numbers from one on
unfoldable pub new_scns : ℕ → ℕ → List Scn
new_scns first count = map new_scn (range_with_len first count)

-- sections that are added as elf_newscn makes them
abbrev pub with_added : ℕ → Object → Object
with_added count o = with_sections o (o.sections ++ replicate count new_section)

-- a step that adds sections, whatever the source tells; a mark stays
pub record IsGrown (after : Object → Object) (old new : Body) : Type 0 where
  pub count : ℕ
  pub object : (image : Option (List ℕ)) (size : ℕ)
      → object_of image size new ≡ after (object_of image size old)
  pub sections : new.sections
      ≡ old.sections ++ new_scns (length old.sections) count
  pub class : new.header.class ≡ old.header.class
  pub order : new.header.order ≡ old.header.order
  pub base : new.base ≡ old.base
  pub written : new.written ≡ old.written
  pub marks : has_mark new ≡ false → has_mark old ≡ false
  pub ready : ready_of new ≡ false

-- of each section, whether something of it is held: of one that is added nothing is
abbrev pub with_none : ℕ → List Bool → List Bool
with_none count l = l ++ replicate (count - length l) false

-- after an edit that may add sections
abbrev pub grown : {S A : Type 0} → Call A → State S → State S
grown c s = record s {
  o = c.after s.o;
  loaded = with_none (length (c.after s.o).sections) s.loaded;
  held = with_none (length (c.after s.o).sections) s.held;
  room = with_none (length (c.after s.o).sections) s.room;
  ready = false;
}

-- after elf_newscn's section 0 alone, which changes nothing where there are sections
abbrev pub nulled : {S : Type 0} → State S → State S
nulled s = if length s.o.sections == 0 then grown calls.newnull s else s
