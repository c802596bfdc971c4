-- Steps that read among some homes, and steps that store what is at hand.
use Rattle.std.specs.Prelude.{◌≡◌, ℕ, ◌<◌, IsTrue, List, Result, Ok, IfErr}
use Rattle.elf_types.specs.declared.errors.ElfError.{ElfError}
use Rattle.elf_types.specs.declared.errors.ElfError.TheVariants.{Memory, Read}
use Rattle.elf_outside.specs.declared.sources.Source.{Ghosts}
use Rattle.elf_outside.specs.Asks.{Asks}
use Rattle.symbol_lookup.specs.elf_object.Object.{Object}
use Rattle.symbol_lookup.specs.elf_object.Answers.{piece_count}
use Rattle.symbol_lookup.specs.elf_object.Due.{is_loaded, holds_items, homes_due}
use Rattle.symbol_lookup.specs.elf_descriptor.State.{State}
use Rattle.symbol_lookup.specs.elf_descriptor.Reads.{Reads}

-- how a step may end: for want of memory, and by a failed read where a home is not loaded
abbrev pub MayStopReading : {S : Type 0} → State S → List ℕ → ElfError → Type 0
MayStopReading state homes Memory = Unit {0}
MayStopReading state homes Read = 0 < homes_due state.o state.loaded homes
MayStopReading state homes e = ⊥

-- a step that reads homes of a list, each at the first use, and leaves the object
pub record ReadsHomes {S T : Type 0} (g : Ghosts S) (homes : List ℕ) (result : Result T ElfError)
    (old new : State S) : Type 0 where
  pub object : new.o ≡ old.o
  pub reads : Reads g result old new homes homes (homes_due old.o old.loaded homes)
  pub ended : IfErr result (MayStopReading old homes)

-- steps that leave an object, and read nothing: what is loaded stays so, and no more is
pub record Stores {S : Type 0} (g : Ghosts S) (old new : State S) (after : Object) : Type 0 where
  pub object : new.o ≡ after
  pub told : new.told ≡ old.told
  pub asks : Asks {T = Unit {0}} g (Ok tt) old.source new.source 0
  pub same : (i : ℕ) → is_loaded new.loaded i ≡ is_loaded old.loaded i

-- one of them: a first piece that is there and held its items holds them still
pub record StoresOne {S : Type 0} (g : Ghosts S) (old new : State S) (after : Object)
    : Type 0 where
  pub stores : Stores g old new after
  pub holds_on : (i : ℕ) → 0 < piece_count old.o i → IsTrue (holds_items old.o old.held i 0)
      → IsTrue (holds_items new.o new.held i 0)
