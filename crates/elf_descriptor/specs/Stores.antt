-- One item of a piece is stored (gelf_update_sym of gelf(3E) and its like).
use Rattle.std.specs.Prelude.{◌≡◌, ℕ, Bool, false, IsTrue, List, [], ◌∷◌, slice_set, Option, Result}
use Rattle.elf_types.specs.declared.records.Class.{Class}
use Rattle.elf_types.specs.declared.records.Kind.{Kind}
use Rattle.elf_types.specs.declared.errors.ElfError.{ElfError}
use Rattle.elf_types.specs.Answers.{first_refusal}
use Rattle.section_table.specs.elf_xlate.declared.content.Items.{Items}
use Rattle.section_table.specs.elf_outside.declared.sources.Source.{Ghosts}
use Rattle.section_table.specs.elf_object.Answers.{items_at}
use Rattle.section_table.specs.elf_object.Calls.{Call, due, update_item}
use Rattle.section_table.specs.elf_object.Steps.{BecomesOwn}
use Rattle.section_table.specs.section_data.Refused.{store_refused}
use Rattle.elf_descriptor.specs.declared.body.Body.{Body}
use Rattle.elf_descriptor.specs.State.{State}
use Rattle.elf_descriptor.specs.Views.{scn_at, no_scn}
use Rattle.elf_descriptor.specs.Lends.{ReadsToOwn}

-- an item of a kind whose lists of items are given, and which fits a class or not: the calls of the
-- plain object that store an item are this, each at its kind
abbrev pub store : {A : Type 0} → Kind → (List A → Items) → (Items → List A)
    → (Class → A → Bool) → ℕ → ℕ → ℕ → A → Call (Unit {0})
store kind variant list_of fitting s p i item =
    update_item kind s p i (λ class. fitting class item)
    (λ items. variant (slice_set (list_of items) i item))

-- an edit of the items of a piece: it became own, over every source with items of the kind that it
-- had, and as many; where the source tells its bytes, the object is the stated one
pub record EditsItems {S A T : Type 0} (g : Ghosts S) (c : Call A) (s p : ℕ)
    (result : Result T ElfError) (old new : State S) : Type 0 where
  pub own : BecomesOwn false old.o new.o s p (items_at old.o s p)
  pub object : IsTrue old.told → new.o ≡ c.after old.o
  pub reads : ReadsToOwn g result old new (c.reads old.o) (due c old.o old.loaded)

-- how it is refused by what the program keeps
unfoldable pub no_store_in : Body → Kind → ℕ → ℕ → ℕ → Bool → Option ElfError
no_store_in b kind s p i fitting = first_refusal
    (no_scn b s ∷ store_refused b.header.class (scn_at b s).cell kind p i fitting ∷ [])
