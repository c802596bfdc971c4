-- What a call on a descriptor does to its source, and what of the object is held afterwards.
use Rattle.std.specs.Prelude.{◌≡◌, ℕ, ◌+◌, ◌≤◌, false, IsTrue, List, Contains, Result, IfErr}
use Rattle.elf_types.specs.declared.errors.ElfError.{ElfError}
use Rattle.elf_types.specs.Answers.{IsRefusal}
use Rattle.section_table.specs.elf_outside.declared.sources.Source.{Ghosts}
use Rattle.section_table.specs.elf_outside.Asks.{Asks}
use Rattle.section_table.specs.elf_object.Words.{Wants}
use Rattle.section_table.specs.elf_object.Calls.{Call, due, wants}
use Rattle.section_table.specs.elf_object.Due.{is_loaded, holds_items, homes_due}
use Rattle.elf_descriptor.specs.State.{State}

-- It may load the sections of one list, and make the home pieces of another hold their items. What
-- is loaded stays so, and so does what holds its items; memory that is kept aside for a home stays
-- until the home is loaded. It asks for at most so many bytes; where it
-- answers neither Read nor Memory, for those of the homes that became loaded.
pub record Reads {S T : Type 0} (g : Ghosts S) (result : Result T ElfError) (old new : State S)
    (sections holding : List ℕ) (due : ℕ) : Type 0 where
  pub source : Asks g result old.source new.source due
  pub told : new.told ≡ old.told
  pub ready : new.ready ≡ old.ready
  pub loads : (i : ℕ) → ¬ Contains sections i
      → is_loaded new.loaded i ≡ is_loaded old.loaded i
  pub stays : (i : ℕ) → IsTrue (is_loaded old.loaded i)
      → IsTrue (is_loaded new.loaded i)
  pub holds : (i : ℕ) → ¬ Contains holding i → is_loaded new.held i ≡ is_loaded old.held i
  pub holds_on : (s p : ℕ) → IsTrue (holds_items old.o old.held s p)
      → IsTrue (holds_items new.o new.held s p)
  pub room : (i : ℕ) → is_loaded new.loaded i ≡ false
      → is_loaded new.room i ≡ is_loaded old.room i
  pub first_use : IfErr result IsRefusal
      → g.taken new.source + homes_due old.o new.loaded sections
      ≤ g.taken old.source + homes_due old.o old.loaded sections

-- a call that leaves the object
pub record Queries {S A T : Type 0} (g : Ghosts S) (c : Call A) (holding : List ℕ)
    (result : Result T ElfError) (old new : State S) : Type 0 where
  pub object : new.o ≡ old.o
  pub reads : Reads g result old new (c.reads old.o) holding (due c old.o old.loaded)

-- one that looks at items
abbrev pub Looks : {S A T : Type 0} → Ghosts S → Call A → Result T ElfError → State S → State S
    → Type 0
Looks g c result old new = Queries g c (c.reads old.o) result old new

-- whether Memory and Read may come in a call, by what is held
abbrev pub wanted : {S A : Type 0} → Call A → State S → Wants
wanted c s = wants c s.o s.loaded s.held
