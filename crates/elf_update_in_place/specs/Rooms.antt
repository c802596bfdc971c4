-- Memory that an update in place takes before it reads or writes.
use Rattle.std.specs.Prelude.{◌≡◌, ℕ, ◌<◌, Bool, true, false, IsTrue, List, length, slice_index_or, Result, OnOk, OnErr, IfErr}
use Rattle.elf_types.specs.declared.errors.ElfError.{ElfError}
use Rattle.elf_types.specs.declared.errors.ElfError.TheVariants.{Memory}
use Rattle.elf_outside.specs.declared.sources.Source.{Ghosts}
use Rattle.elf_object.specs.Object.{section_at}
use Rattle.elf_object.specs.Due.{is_loaded}
use Rattle.elf_update_to.specs.elf_descriptor.State.{State}
use Rattle.elf_update_to.specs.elf_descriptor.Fronts.{HoldsBase}
use Rattle.elf_update_to.specs.elf_descriptor.Rooms.{has_room_for}

-- whether a list tells it of a section
abbrev pub tells : List Bool → ℕ → Bool
tells moves s = slice_index_or moves s false

-- what is kept aside stays so, and nothing else of the descriptor changes
pub record KeepsAside {S : Type 0} (old new : State S) : Type 0 where
  pub rest : new ≡ record old { room = new.room }
  pub stays : (i : ℕ) → IsTrue (is_loaded old.room i) → IsTrue (is_loaded new.room i)

-- the home of a section can be loaded without memory, where it is in the file
abbrev pub CanLoad : {S : Type 0} → State S → ℕ → Type 0
CanLoad state s = (section_at state.o s).home.out ≡ false → IsTrue (has_room_for state s)

-- memory is kept aside for the homes of the sections that a list tells; it refuses Memory alone
pub record ReservesHomes {S A : Type 0} (moves : List Bool) (count : ℕ) (result : Result A ElfError)
    (old new : State S) : Type 0 where
  pub aside : KeepsAside old new
  pub room : OnOk result ((i : ℕ) → i < count → tells moves i ≡ true → CanLoad new i)
  pub err : IfErr result (λ e. e ≡ Memory)

-- the memory of an update in place is taken: the homes of the sections that a list tells can be
-- loaded, the object can be settled, and the device begins with the base
pub record IsTaken {S : Type 0} (g : Ghosts S) (moves : List Bool) (state : State S) : Type 0 where
  pub room : (i : ℕ) → i < length state.o.sections → tells moves i ≡ true → CanLoad state i
  pub base : HoldsBase g state
  pub ready : IsTrue state.ready

-- a call takes it, and nothing else of the descriptor changes. It refuses Memory alone; then memory
-- may be kept aside for homes.
pub record TakesMemory {S A : Type 0} (g : Ghosts S) (moves : List Bool)
    (result : Result A ElfError) (old new : State S) : Type 0 where
  pub state : OnOk result (new ≡ record old { room = new.room; ready = true })
  pub taken : OnOk result (IsTaken g moves new)
  pub refused : OnErr result (new ≡ record old { room = new.room })
  pub err : IfErr result (λ e. e ≡ Memory)
