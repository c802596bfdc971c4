-- Symbol tables whose symbols a hash section lists, and steps that read such a table and its
-- strings.
use Rattle.std.specs.Prelude.{◌≡◌, ℕ, ◌<◌, ◌^◌, length, None, Result, IfErr}
use Rattle.elf_types.specs.declared.errors.ElfError.{ElfError}
use Rattle.elf_types.specs.declared.errors.ElfError.TheVariants.{Memory, Read, Unsorted}
use Rattle.elf_outside.specs.declared.sources.Source.{Ghosts}
use Rattle.symbol_lookup.specs.elf_object.Object.{Object}
use Rattle.symbol_lookup.specs.elf_object.Due.{homes_due}
use Rattle.symbol_lookup.specs.elf_descriptor.State.{State}
use Rattle.symbol_lookup.specs.elf_descriptor.Reads.{Reads}
use Rattle.symbol_lookup.specs.hash_model.Listed.{listed_names}
use Rattle.symbol_lookup.specs.hash_model.BuiltHashes.{hash_refusal}
use Rattle.symbol_lookup.specs.Lookups.{link_of, table_homes}
use Rattle.hash_build.specs.declared.tables.SymbolTable.{SymbolTable}

-- a table for which hash sections are built: what nothing refuses, with its strings and its number
-- of symbols
pub record IsSymbolTable (o : Object) (t : SymbolTable) : Type 0 where
  pub passed : hash_refusal o t.section.0 ≡ None
  pub strings : t.strings.0 ≡ link_of o t.section.0
  pub count : t.count ≡ length (listed_names o t.section.0)
  pub few : t.count < 2 ^ 32

-- how a step may end: for want of memory, and by a failed read where a home is not loaded
abbrev pub MayStop : {S : Type 0} → State S → ℕ → ElfError → Type 0
MayStop state s Memory = Unit {0}
MayStop state s Read = 0 < homes_due state.o state.loaded (table_homes state.o s)
MayStop state s e = ⊥

-- a step that reads the table of section s and its strings, each at the first use
pub record ReadsTable {S T : Type 0} (g : Ghosts S) (s : ℕ) (result : Result T ElfError)
    (old new : State S) : Type 0 where
  pub object : new.o ≡ old.o
  pub reads : Reads g result old new (table_homes old.o s) (table_homes old.o s)
      (homes_due old.o old.loaded (table_homes old.o s))
  pub ended : IfErr result (MayStop old s)

-- a step that may find besides that the symbols stand out of their order
abbrev pub MayStopUnsorted : {S : Type 0} → State S → ℕ → ElfError → Type 0
MayStopUnsorted state s Memory = Unit {0}
MayStopUnsorted state s Read = 0 < homes_due state.o state.loaded (table_homes state.o s)
MayStopUnsorted state s (Unsorted at) = Unit {0}
MayStopUnsorted state s e = ⊥

pub record ReadsInOrder {S T : Type 0} (g : Ghosts S) (s : ℕ) (result : Result T ElfError)
    (old new : State S) : Type 0 where
  pub object : new.o ≡ old.o
  pub reads : Reads g result old new (table_homes old.o s) (table_homes old.o s)
      (homes_due old.o old.loaded (table_homes old.o s))
  pub ended : IfErr result (MayStopUnsorted old s)
