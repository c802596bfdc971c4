-- What calls that are run one after another read of an object's source.
use Rattle.std.specs.Prelude.{◌≡◌, ◌≤◌, ◌+◌, ℕ, IsTrue, List, [], ◌∷◌, Contains, Result, OnOk}
use Rattle.elf_outside.specs.Asks.{Leaves}
use Rattle.elf_outside.specs.declared.sources.Source.{Ghosts}
use Rattle.symbol_lookup.specs.elf_object.Object.{Object}
use Rattle.symbol_lookup.specs.elf_object.Calls.{Call, step}
use Rattle.symbol_lookup.specs.elf_object.Due.{is_loaded, homes_due, with_others}
use Rattle.symbol_lookup.specs.elf_descriptor.State.{State}
use Rattle.tool_output.specs.declared.stops.Stop.{Stop}

-- the sections whose homes calls may read, each once, where each call meets the object that those
-- before it left
unfoldable pub read_by : {A : Type 0} → List (Call A) → Object → List ℕ
read_by [] o = []
read_by (c ∷ cs) o = with_others (c.reads o) (read_by cs (step c o))

-- how many bytes they may ask for at most, of an object of which no section is loaded
unfoldable pub homes_read : {A : Type 0} → List (Call A) → Object → ℕ
homes_read cs o = homes_due o [] (read_by cs o)

-- What a run of calls leaves of a descriptor, whatever its source tells: the source holds what it
-- held, and what was loaded stays so.
pub record LeavesState {S : Type 0} (g : Ghosts S) (old new : State S) : Type 0 where
  pub told : new.told ≡ old.told
  pub source : Leaves g old.source new.source
  pub later : g.faults old.source ≤ g.faults new.source
  pub stays : (i : ℕ) → IsTrue (is_loaded old.loaded i) → IsTrue (is_loaded new.loaded i)

-- What it reads: of no other sections than these becomes one loaded. It asks for at most their
-- homes that were not loaded, and where it comes to its end for at most those that became loaded.
pub record ReadsDueHomes {S T : Type 0} (g : Ghosts S) (result : Result T Stop) (old new : State S)
    (sections : List ℕ) : Type 0 where
  pub loads : (i : ℕ) → ¬ Contains sections i
      → is_loaded new.loaded i ≡ is_loaded old.loaded i
  pub became : OnOk result (g.taken new.source + homes_due old.o new.loaded sections
      ≤ g.taken old.source + homes_due old.o old.loaded sections)
  pub bound : g.taken new.source ≤ g.taken old.source + homes_due old.o old.loaded sections
