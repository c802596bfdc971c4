-- The parts of a descriptor's object, as an update writes them (elf_update of elf(3E)).
use Rattle.std.specs.Prelude.{◌≡◌, ℕ, Bool, List, [], ◌∷◌, map, Option, if◌then◌else◌}
use Rattle.elf_types.specs.declared.records.DataId.{DataId}
use Rattle.elf_types.specs.declared.records.Part.{Part}
use Rattle.elf_types.specs.declared.records.Part.TheVariants as part
use Rattle.elf_update_plan.specs.elf_layout.declared.parts.PartAt.{PartAt}
use Rattle.elf_update_plan.specs.elf_layout.Meeting.{ranks_by_position}
use Rattle.elf_update_plan.specs.elf_outside.declared.sources.Source.{Ghosts}
use Rattle.elf_update_plan.specs.elf_object.Object.{Object, section_at, has_file_bytes}
use Rattle.elf_update_plan.specs.elf_object.Joined.{aligned_pieces}
use Rattle.elf_update_plan.specs.elf_object.Layout.{placed, placed_parts}
use Rattle.elf_update_plan.specs.elf_object.Image.{front_blocks}
use Rattle.elf_update_plan.specs.law_object.Writing.Plan.{section_due}
use Rattle.elf_update_plan.specs.law_object.Writing.Ready.{IsReady}
use Rattle.elf_update_plan.specs.elf_descriptor.State.{State}
use Rattle.elf_update_plan.specs.elf_descriptor.Held.{IsUnread}
use Rattle.elf_update_plan.specs.Plans.{part_of_rank}

-- all of a descriptor but its source, and of that what a read leaves
pub record KeptElf : Type 0 where
  pub o : Object
  pub told : Bool
  pub loaded : List Bool
  pub held : List Bool
  pub room : List Bool
  pub ready : Bool
  pub size : ℕ
  pub holds : Option (List ℕ)
  pub rest : List (List ℕ)

abbrev pub kept_of_elf : {S : Type 0} → Ghosts S → State S → KeptElf
kept_of_elf g e = record {
  o = e.o;
  told = e.told;
  loaded = e.loaded;
  held = e.held;
  room = e.room;
  ready = e.ready;
  size = g.size e.source;
  holds = g.holds e.source;
  rest = g.rest e.source;
}

-- the pieces of a part, each with its alignment in the part; header and tables have one
abbrev pub stored_pieces : Object → Part → List (ℕ × List ℕ)
stored_pieces o part.Header = (1, (front_blocks o).header.bytes) ∷ []
stored_pieces o part.Segments = (1, (front_blocks o).segments.bytes) ∷ []
stored_pieces o part.Table = (1, (front_blocks o).table.bytes) ∷ []
stored_pieces o (part.Section s) =
    if has_file_bytes s (section_at o s)
    then aligned_pieces o.header.class o.header.order (section_at o s) else []
stored_pieces o _ = []

-- of a section its home, where its home piece is clean
abbrev pub stored_due : Object → List Bool → Part → ℕ
stored_due o loaded (part.Section s) = section_due o loaded s
stored_due o loaded _ = 0

-- the piece of a part that has to be read: one of a section, whose home is not loaded
pub record HasToRead {S : Type 0} (state : State S) (of : Part) (p : ℕ) (d : DataId) : Type 0 where
  pub section : of ≡ part.Section d.section
  pub piece : p ≡ d.piece
  pub unread : IsUnread state d.section d.piece

-- an object whose places are stored, where something is dirty
pub record HasStoredPlaces (o : Object) : Type 0 where
  pub ready : IsReady o
  pub placed : placed o ≡ o

abbrev pub faults_of : {S : Type 0} → Ghosts S → State S → ℕ
faults_of g e = g.faults e.source

abbrev pub taken_of : {S : Type 0} → Ghosts S → State S → ℕ
taken_of g e = g.taken e.source

-- the plan of an image: its parts that are not empty, by their places
abbrev pub planned : Object → List PartAt
planned o = map (part_of_rank (placed_parts o)) (ranks_by_position (placed_parts o))
