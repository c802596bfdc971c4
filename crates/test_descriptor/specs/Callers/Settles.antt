-- What a caller makes sure of before it settles a descriptor (elf_update with ELF_C_WRITE, elf(3E)).
use Rattle.std.specs.Prelude.{◌≡◌, ℕ, List, None, Result, OnOk, IfOk}
use Rattle.elf_types.specs.declared.errors.ElfError.{ElfError}
use Rattle.elf_outside.specs.declared.sources.Source.{Ghosts}
use Rattle.elf_outside.specs.Asks.{Leaves}
use Rattle.elf_object.specs.Image.{image}
use Rattle.elf_object.specs.Layout.{placed}
use Rattle.elf_object.specs.Refusal.{refusal}
use Rattle.elf_descriptor.specs.State.{State}
use Rattle.elf_update_to.specs.Texts.{IsText}

-- the image of an object is told, and its places are stored
pub record TellsImage {S : Type 0} (g : Ghosts S) (result : Result (List ℕ) ElfError)
    (old new : State S) : Type 0 where
  pub leaves : Leaves g old.source new.source
  pub state : OnOk result (new ≡ record old { o = placed old.o; source = new.source })
  pub passed : OnOk result (refusal old.o ≡ None)
  pub is : IfOk result (IsText old.told (image old.o))
