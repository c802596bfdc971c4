-- Where the bytes of a section of the new image are: in the home of the old section, which is a
-- range of the base (gABI chapter 4, "Section Header", sh_offset and sh_size), or among bytes that
-- are held.
use Rattle.std.specs.Prelude.{◌≡◌, ℕ, ◌==◌, ◌≤◌, Bool, true, false, List, [], ◌++◌, length, None, Result, Ok, Err, IsTrue, IfOk, IfErr, OnOk, if◌then◌else◌}
use Rattle.elf_types.specs.declared.errors.ElfError.{ElfError}
use Rattle.elf_types.specs.declared.errors.ElfError.TheVariants.{OutOfFile}
use Rattle.elf_outside.specs.declared.sources.Source.{Ghosts}
use Rattle.elf_xlate.specs.Translation.{encoded}
use Rattle.law_rebuild.specs.elf_object.Object.{Object, section_at}
use Rattle.law_rebuild.specs.elf_object.Due.{home_due, homes_due}
use Rattle.rebuild_tables.specs.elf_descriptor.State.{State}
use Rattle.rebuild_tables.specs.rebuild_making.Refused.{UnreadBy}
use Rattle.rebuild_tables.specs.rebuild_image.declared.ranges.ranges.ByteRange.{ByteRange}
use Rattle.rebuild_tables.specs.rebuild_image.Ranges.Ranges.{range_bytes, range_due}
use Rattle.rebuild_tables.specs.rebuild_keep.declared.keepers.Keeper.{Keeper}
use Rattle.rebuild_tables.specs.rebuild_keep.Keepers.{items_by, makes_by, refusal_by, reads_by}
use Rattle.rebuild_tables.specs.rebuild_keep.Makes.{AsksFor}

-- ---- Homes

-- an empty home may lie anywhere, so its range has the place 0
abbrev pub base_place : ℕ → ℕ → ℕ
base_place at len = if len == 0 then 0 else at

abbrev pub home_range : Object → ℕ → ByteRange
home_range o s = record {
  held = false;
  at = base_place (section_at o s).home.at (section_at o s).home.len;
  len = (section_at o s).home.len;
}

-- the range of a home that lies in the file, or the refusal of one that does not
abbrev pub FindsHome : Object → ℕ → Result ByteRange ElfError → Type 0
FindsHome o s (Ok range) = ((section_at o s).home.out ≡ false) × (range ≡ home_range o s)
FindsHome o s (Err e) = ((section_at o s).home.out ≡ true) × (e ≡ OutOfFile s)

-- ---- Sections

-- the bytes that a section of the new image has, by a keeper
unfoldable pub bytes_by : Keeper → Object → ℕ → List ℕ
bytes_by k o s = encoded o.header.class o.header.order (items_by k o s)

-- A range was found for bytes, of the base or of what is held, which may have grown. It stays their
-- range, whatever is held behind it.
pub record IsRangeOf (told : Bool) (base bytes old new : List ℕ) (range : ByteRange) : Type 0 where
  pub added : List ℕ
  pub all : new ≡ old ++ added
  pub long : IsTrue told → range.len ≡ length bytes
  pub is : IsTrue told → (later : List ℕ) → range_bytes (new ++ later) base range ≡ bytes

-- what is asked for: the homes that are looked at where what a section has is made, and nothing of
-- one that is taken as it is
abbrev pub making_due : Keeper → Object → ℕ → ℕ
making_due k o s = if makes_by k o s then homes_due o [] (reads_by k o s) else 0

-- how many bytes of the base its range has: its home where it is taken as it is
abbrev pub base_due_by : Keeper → Object → ℕ → ℕ
base_due_by k o s = if makes_by k o s then 0 else home_due o [] s

-- a step finds the range of a section of the new image, and leaves the object
pub record FindsRange {S : Type 0} (g : Ghosts S) (k : Keeper) (s : ℕ)
    (result : Result ByteRange ElfError) (old new : State S) (held next : List ℕ)
    : Type 0 where
  pub ok : IfOk result (IsRangeOf old.told old.o.base (bytes_by k old.o s) held next)
  pub within : IfOk result (λ range. range_due range ≤ base_due_by k old.o s)
  pub passed : OnOk result (refusal_by k old.o s ≡ None)
  pub err : IfErr result (UnreadBy (refusal_by k old.o s))
  pub asks : AsksFor g result old new (making_due k old.o s)
