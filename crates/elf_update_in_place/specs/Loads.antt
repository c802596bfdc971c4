-- What is read before an update in place writes: the homes of the sections that move.
use Rattle.std.specs.Prelude.{◌≡◌, ◌<◌, ℕ, Bool, true, false, IsTrue, List, filter, Result, OnOk, IfErr}
use Rattle.std.specs.List.{range_with_len}
use Rattle.elf_types.specs.declared.errors.ElfError.{ElfError}
use Rattle.elf_types.specs.declared.errors.ElfError.TheVariants.{Read}
use Rattle.elf_outside.specs.declared.sources.Source.{Ghosts}
use Rattle.elf_outside.specs.Asks.{Asks}
use Rattle.elf_object.specs.Object.{section_at}
use Rattle.elf_object.specs.Due.{is_loaded, homes_due}
use Rattle.elf_update_to.specs.elf_descriptor.State.{State}
use Rattle.elf_update_in_place.specs.Rooms.{tells}

-- Some sections became loaded, and none but those that a test passes. What was loaded still is, no
-- items came to be held, and memory that is kept aside for a home stays until it is loaded.
pub record LoadsSome {S : Type 0} (test : ℕ → Bool) (old new : State S) : Type 0 where
  pub rest : new ≡ record old {
    loaded = new.loaded;
    held = new.held;
    room = new.room;
    source = new.source;
  }
  pub loads : (i : ℕ) → test i ≡ false → is_loaded new.loaded i ≡ is_loaded old.loaded i
  pub stays : (i : ℕ) → IsTrue (is_loaded old.loaded i) → IsTrue (is_loaded new.loaded i)
  pub held : (i : ℕ) → is_loaded new.held i ≡ is_loaded old.held i
  pub room : (i : ℕ) → is_loaded new.loaded i ≡ false
      → is_loaded new.room i ≡ is_loaded old.room i

-- the sections that a list tells, of so many
abbrev pub told_sections : List Bool → ℕ → List ℕ
told_sections moves count = filter (tells moves) (range_with_len 0 count)

-- the homes of the sections that a list tells are read, where they are in the file and not loaded:
-- each is asked for once. It refuses Read alone.
pub record LoadsHomes {S A : Type 0} (g : Ghosts S) (moves : List Bool) (count : ℕ)
    (result : Result A ElfError) (old new : State S) : Type 0 where
  pub some : LoadsSome (tells moves) old new
  pub loaded : OnOk result ((i : ℕ) → i < count → tells moves i ≡ true
      → (section_at old.o i).home.out ≡ false → IsTrue (is_loaded new.loaded i))
  pub asks : Asks g result old.source new.source
      (homes_due old.o old.loaded (told_sections moves count))
  pub err : IfErr result (λ e. e ≡ Read)
