-- What a step that puts a text over a device leaves of the descriptor over it (elf_update with
-- ELF_C_WRITE).
use Rattle.std.specs.Prelude.{◌≡◌, ℕ, ◌+◌, ◌<◌, ◌^◌, ◌≤◌, IsTrue, true, List, length, None, Result, IfErr}
use Rattle.elf_types.specs.declared.errors.ElfError.{ElfError}
use Rattle.elf_types.specs.declared.errors.ElfError.TheVariants.{Write}
use Rattle.elf_types.specs.declared.records.Part.{Part}
use Rattle.elf_types.specs.declared.records.Part.TheVariants as part
use Rattle.elf_outside.specs.declared.sources.Source.{Ghosts as SourceGhosts}
use Rattle.elf_outside.specs.declared.devices.Device.{Ghosts as DeviceGhosts}
use Rattle.elf_outside.specs.Patches.{Patches}
use Rattle.elf_update_to.specs.elf_object.Answers.{piece_count}
use Rattle.elf_update_to.specs.elf_object.Object.{section_at, piece_at, has_file_bytes}
use Rattle.elf_update_to.specs.elf_object.Due.{is_loaded}
use Rattle.elf_update_to.specs.elf_descriptor.State.{State}
use Rattle.elf_update_to.specs.elf_descriptor.Cuts.{MayWrite}
use Rattle.elf_update_to.specs.elf_descriptor.Fronts.{HoldsBase}

-- what a text of so many bytes rests on that is put over a device from a place on: the object is
-- ready, the range lies in the device, which begins with the base, and no home that shares a place
-- with it rests on the base
pub record MayOverwrite {D : Type 0} (s : SourceGhosts D) (state : State D) (at n : ℕ)
    : Type 0 where
  pub ready : IsTrue state.ready
  pub within : at + n ≤ s.size state.source
  pub small : at + n < 2 ^ 64
  pub base : HoldsBase s state
  pub may : MayWrite state at n

-- Of the object the base alone changed, which is as long as it was and with which the device begins.
pub record ChangesBase {D : Type 0} (s : SourceGhosts D) (old new : State D) : Type 0 where
  pub state : new
      ≡ record old { o = record old.o { base = new.o.base }; source = new.source }
  pub long : length new.o.base ≡ length old.o.base
  pub base : HoldsBase s new
  pub untold : s.holds new.source ≡ None → new.o.base ≡ old.o.base

-- The text stands there, or after a refusal each byte of the range is the old one or the new one.
-- Nothing is read.
pub record Overwrites {D T : Type 0} (s : SourceGhosts D) (d : DeviceGhosts D)
    (result : Result T ElfError) (old new : State D) (at : ℕ) (text : List ℕ) : Type 0 where
  pub change : ChangesBase s old new
  pub patches : Patches s d result old.source new.source at text (length text)
  pub err : IfErr result (λ e. e ≡ Write)

-- the bytes of each piece of a part in the file are at hand: a clean home piece of a section is
-- loaded
abbrev pub NeedsNoRead : {S : Type 0} → State S → Part → Type 0
NeedsNoRead state (part.Section s) =
    (p : ℕ) → has_file_bytes s (section_at state.o s) ≡ true → s < length state.o.sections
    → p < piece_count state.o s → (piece_at state.o s p).own ≡ None
    → IsTrue (is_loaded state.loaded s)
NeedsNoRead state _ = Unit {0}
