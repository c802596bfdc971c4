-- What a step makes of an object that it reads and leaves.
use Rattle.std.specs.Prelude.{◌≡◌, ℕ, List, Option, None, Result, IsTrue, IfOk, IfErr, OnOk}
use Rattle.elf_types.specs.declared.records.Class.{Class}
use Rattle.elf_types.specs.declared.records.Sym.{Sym}
use Rattle.elf_types.specs.declared.errors.ElfError.{ElfError}
use Rattle.rebuild_making.specs.elf_outside.Asks.{Asks}
use Rattle.rebuild_making.specs.elf_outside.declared.sources.Source.{Ghosts}
use Rattle.rebuild_names.specs.elf_xlate.declared.content.Items.{Items}
use Rattle.rebuild_names.specs.elf_xlate.declared.content.Items.TheVariants as items
use Rattle.rebuild_names.specs.elf_xlate.Translation.{first_unfit}
use Rattle.rebuild_making.specs.elf_object.Object.{Object}
use Rattle.elf_update_plan.specs.elf_descriptor.State.{State}
use Rattle.elf_update_plan.specs.elf_descriptor.Reads.{Looks}
use Rattle.rebuild_making.specs.Making.{reading_homes}
use Rattle.rebuild_making.specs.Refused.{UnreadBy}

-- ---- What fits a class

-- items
abbrev pub FitsAs : Class → Items → Type 0
FitsAs class made = first_unfit class made ≡ None

-- symbols
abbrev pub SymsFit : Class → List Sym → Type 0
SymsFit class syms = first_unfit class (items.Sym syms) ≡ None

-- every value
abbrev pub FitsAny : {T : Type 0} → Class → T → Type 0
FitsAny class x = Unit {0}

-- ---- A step

-- It makes what is stated of the object, over a source that tells its bytes, and something that
-- fits over every one. It refuses as is stated, and besides Memory and Read, and looks at the homes
-- of these sections.
pub record MakesStated {S T
    : Type 0} (g : Ghosts S) (stated : Object → T) (Fits : Class → T → Type 0)
    (refusal : Object → Option ElfError) (reads : Object → List ℕ) (result : Result T ElfError)
    (old new : State S) : Type 0 where
  pub told : IsTrue old.told → IfOk result (λ x. x ≡ stated old.o)
  pub fits : IfOk result (Fits old.o.header.class)
  pub passed : OnOk result (refusal old.o ≡ None)
  pub err : IfErr result (UnreadBy (refusal old.o))
  pub looks : Looks g (reading_homes reads) result old new

-- ---- What is asked for

-- a step leaves the object, and asks for at most so many bytes
pub record AsksFor {S T : Type 0} (g : Ghosts S) (result : Result T ElfError) (old new : State S)
    (n : ℕ) : Type 0 where
  pub object : new.o ≡ old.o
  pub told : new.told ≡ old.told
  pub source : Asks g result old.source new.source n
