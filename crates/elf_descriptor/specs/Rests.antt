-- What is true of a descriptor once what a call lent of it to be read is let go.
use Rattle.std.specs.Prelude.{◌≡◌, ℕ, IsTrue, None, [], OnOk, Result, ⊤}
use Rattle.std.specs.Borrow.{Fml, MutBor, RattleType, follows_so}
use mathlib.Core.Option.{none}
use Rattle.elf_types.specs.declared.errors.ElfError.{ElfError}
use Rattle.section_table.specs.elf_outside.declared.sources.Source.{Ghosts}
use Rattle.elf_descriptor.specs.contracts.descriptor.Elf.{the_row}
use Rattle.section_table.specs.elf_object.Object.{piece_at}
use Rattle.section_table.specs.elf_object.Calls as calls
use Rattle.section_table.specs.elf_object.Due.{is_loaded, holds_items}
use Rattle.elf_descriptor.specs.State.{State}
use Rattle.elf_descriptor.specs.Reads.{Queries, Looks}

abbrev pub Rests : (S : RattleType) → (g : Ghosts S.Denot) → MutBor (State S.Denot)
    → (State S.Denot → Type 0) → Fml
Rests S g e P = follows_so (the_row S g) (the_row S g) e.ghost_name none (λ _ _. ⊤) P

-- after a call that gives a home's bytes: it is loaded, and no items came to be held
pub record GivesRaw {S T : Type 0} (g : Ghosts S) (s : ℕ) (result : Result T ElfError)
    (old new : State S) : Type 0 where
  pub queries : Queries g (calls.raw s) [] result old new
  pub loaded : OnOk result (IsTrue (is_loaded new.loaded s))

-- after a call that gives a piece's items: it holds them, and where it is the clean home piece its
-- home is loaded
pub record GivesItems {S T : Type 0} (g : Ghosts S) (s p : ℕ) (result : Result T ElfError)
    (old new : State S) : Type 0 where
  pub looks : Looks g (calls.section_data s p) result old new
  pub held : OnOk result (IsTrue (holds_items new.o new.held s p))
  pub loaded : OnOk result ((piece_at new.o s p).own ≡ None → IsTrue (is_loaded new.loaded s))
