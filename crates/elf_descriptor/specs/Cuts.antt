-- What a write of the device that a descriptor is over leaves of the descriptor (elf_update with
-- ELF_C_WRITE, elf(3E)).
use Rattle.std.specs.Prelude.{◌≡◌, ℕ, ◌+◌, ◌<◌, ◌≤◌, min, true, false, IsTrue, length, take, None, IfSome}
use Rattle.section_table.specs.elf_outside.declared.sources.Source.{Ghosts as SourceGhosts}
use Rattle.section_table.specs.elf_object.Blocks.{extents_meet}
use Rattle.section_table.specs.elf_object.Object.{Object, section_at}
use Rattle.section_table.specs.elf_object.Due.{is_loaded}
use Rattle.law_object.specs.Writing.Based.{some_unmarked}
use Rattle.elf_descriptor.specs.State.{State}

-- ---- What may be written

-- a section's home is in the file and lies in the base
abbrev pub LiesInBase : Object → ℕ → Type 0
LiesInBase o s =
    ((section_at o s).home.out ≡ false)
    × ((section_at o s).home.at + (section_at o s).home.len ≤ length o.base)

-- what a home holds does not rest on the base: it is loaded, and each piece of its section is
-- marked
abbrev pub IsKeptApart : {S : Type 0} → State S → ℕ → Type 0
IsKeptApart state s =
    IsTrue (is_loaded state.loaded s) × (some_unmarked (section_at state.o s) ≡ false)

-- The object is marked as a whole, and no home that shares a place with the range rests on the
-- base.
pub record MayWrite {S : Type 0} (state : State S) (at n : ℕ) : Type 0 where
  pub marked : state.o.marked ≡ true
  pub homes : (s : ℕ) → LiesInBase state.o s
      → extents_meet (section_at state.o s).home.at (section_at state.o s).home.len at n ≡ true
      → IsKeptApart state s

-- The same of each home that passes a new end.
pub record MaySize {S : Type 0} (state : State S) (n : ℕ) : Type 0 where
  pub marked : state.o.marked ≡ true
  pub homes : (s : ℕ) → LiesInBase state.o s → 0 < (section_at state.o s).home.len
      → n < (section_at state.o s).home.at + (section_at state.o s).home.len
      → IsKeptApart state s

-- ---- What a write leaves

-- Of the object the base alone may change. It is as long as it was, or as the device where that is
-- shorter, and the device begins with it.
pub record CutsBase {D : Type 0} (s : SourceGhosts D) (old new : State D) : Type 0 where
  pub state : new
      ≡ record old { o = record old.o { base = new.o.base }; source = new.source }
  pub long : length new.o.base ≡ min (length old.o.base) (s.size new.source)
  pub is : IfSome (s.holds new.source) (λ held. take (length new.o.base) held ≡ new.o.base)
  pub untold : s.holds new.source ≡ None → new.o.base ≡ take (s.size new.source) old.o.base
