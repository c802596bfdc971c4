-- What the program keeps of a section's cell, as a view: a few fields, and behind one pointer what
-- a section needs once it is used.
use Rattle.std.specs.Prelude.{◌≡◌, ℕ, ◌≤◌, Bool, true, false, List, [], length, take, drop, Option, Some, None, is_some, IsSome, IfSome, Box}
use Rattle.std.specs.Option.{option_map}
use Rattle.std.specs.declared.alloc.Global.{Global}
use Rattle.elf_types.specs.declared.records.Kind.TheVariants as kinds
use Rattle.elf_types.specs.declared.constants.TheConstants.{MAX_PIECES}
use Rattle.elf_object.specs.elf_xlate.declared.content.Items.{Items}
use Rattle.elf_object.specs.elf_xlate.declared.content.Items.TheVariants.{Bytes}
use Rattle.elf_object.specs.elf_xlate.Translation.{items_kind}
use Rattle.elf_object.specs.Object.{Home, Piece}
use Rattle.elf_object.specs.Answers.{bytes_of}
use Rattle.section_data.specs.declared.held.HomeItems.{HomeItems}
use Rattle.section_data.specs.declared.held.HomeItems.TheVariants.{Nothing, Translated, Raw}
use Rattle.section_data.specs.declared.used.Used.{Used}
use Rattle.section_data.specs.Views.{CellView, pieces_view}

-- whether the home's items are held in memory form
abbrev pub is_holding : HomeItems → Bool
is_holding Nothing = false
is_holding _ = true

-- They are those that were translated; or the raw bytes, beside which there is room for a copy.
abbrev pub held_view : Option Items → HomeItems → Option Items
held_view raw Nothing = None
held_view raw (Translated items) = Some items
held_view raw (Raw room) = raw

-- what is kept of a section that is used
pub record UsedView : Type 0 where
  pub bytes : Option (List ℕ)
  pub held : Option Items
  pub room : Bool
  pub others : List Piece  -- the pieces after the first

abbrev pub used_view : Option Used → UsedView
used_view None = record { bytes = None; held = None; room = false; others = [] }
used_view (Some u) = record {
  bytes = option_map bytes_of u.raw;
  held = held_view u.raw u.held;
  room = is_some u.room;
  others = u.others;
}

-- the home's bytes, once they are read: of an empty home none are kept
abbrev pub raw_view : Bool → Option (List ℕ) → Option (List ℕ)
raw_view empty_read (Some bytes) = Some bytes
raw_view true None = Some []
raw_view false None = None

abbrev pub kept_view : ℕ → Home → Bool → Bool → Piece → UsedView → CellView
kept_view section home empty_read has_first first used = record {
  section = section;
  home = home;
  raw = raw_view empty_read used.bytes;
  held = used.held;
  room = used.room;
  pieces = pieces_view has_first first used.others;
}

-- room for a copy is kept of bytes that are read, and has place for all of them
abbrev pub IsRoomFor : Option Items → HomeItems → Type 0
IsRoomFor raw Nothing = Unit {0}
IsRoomFor raw (Translated items) = Unit {0}
IsRoomFor raw (Raw room) = IsSome raw × IfSome raw (λ items. length (bytes_of items) ≤ room)

-- Raw bytes are kept as items of kind Bytes; what is kept aside has place for all of the home.
pub record IsUse (len : ℕ) (u : Used) : Type 0 where
  pub bytes : IfSome u.raw (λ items. items_kind items ≡ kinds.Bytes)
  pub copy : IsRoomFor u.raw u.held
  pub room : IfSome u.room (λ zeros. length zeros ≡ len)

abbrev pub IsUsed : ℕ → Option Used → Type 0
IsUsed len None = Unit {0}
IsUsed len (Some u) = IsUse len u

-- there are pieces after the first only where there is a first one
pub record IsKept (len : ℕ) (has_first : Bool) (first : Piece) (slot : Option Used) : Type 0 where
  pub used : IsUsed len slot
  pub few : length (pieces_view has_first first (used_view slot).others) ≤ MAX_PIECES
  pub none : has_first ≡ false → (used_view slot).others ≡ []

-- what is kept of a section that is used, where something is
abbrev pub unboxed : Option (Box Used Global) → Option Used
unboxed slot = option_map (λ b. b.value) slot

-- a place for it was made where there was none
pub record Opens (old new : Option Used) : Type 0 where
  pub there : IsSome new
  pub same : used_view new ≡ used_view old
  pub stays : (len : ℕ) → IsUsed len old → IsUsed len new

-- its raw bytes and items are let go
pub record Forgets (old new : Option Used) : Type 0 where
  pub view : used_view new ≡ record (used_view old) { bytes = None; held = None }
  pub stays : (len : ℕ) → IsUsed len old → IsUsed len new

-- the memory that was kept aside holds the bytes of a home, and is used up
pub record Fills (image : Option (List ℕ)) (at len : ℕ) (old new : Used) : Type 0 where
  pub bytes : List ℕ
  pub now : new ≡ record old { raw = Some (Bytes bytes); room = None }
  pub long : length bytes ≡ len
  pub told : IfSome image (λ told. bytes ≡ take len (drop at told))

-- it is kept after a failed read
pub record KeepsRoom (len : ℕ) (old new : Used) : Type 0 where
  pub zeros : List ℕ
  pub now : new ≡ record old { room = Some zeros }
  pub long : length zeros ≡ len
