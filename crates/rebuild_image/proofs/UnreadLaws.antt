-- A step that reads nothing shows no failed read.
use Rattle.std.proofs.Common.{◌≡◌, ℕ, Bool, List, Option, Err, sym, subst}
use Rattle.std.specs.Prelude.{IfSome}
use Rattle.elf_types.specs.declared.records.Class.{Class}
use Rattle.elf_types.specs.declared.errors.ElfError.{ElfError}
use Rattle.elf_types.specs.declared.errors.ElfError.TheVariants.{Memory}
use Rattle.elf_types.specs.Answers.{IsRefusal}
use Rattle.elf_outside.specs.Asks.{ReadRose}
use Rattle.elf_outside.proofs.AskLemmas.{read_rose_refused}
use Rattle.elf_layout.specs.declared.parts.PartAt.{PartAt}
use Rattle.elf_layout.specs.Layout.{placing, placing_within, refusal_of, places_of, layout_refusal}
use Rattle.rebuild_model.proofs.elf_object.AnswerLaws.{answered_refusal}
use Rattle.rebuild_model.proofs.elf_object.RefusalLaws.{layout_refuses}

-- want of memory
pub wanted_unread : (T : Type 0) (e : ElfError) → e ≡ Memory → (a b : ℕ)
    → ReadRose {T = T} (Err e) a b
wanted_unread T e is a b =
    subst (λ (d : ElfError). ReadRose {T = T} (Err d) a b) (sym is) tt

-- parts that are not placed
module _ (parts : List PartAt) (layout : Bool) (base : ℕ) (class : Class) where
  placing_states : (e : ElfError) → placing parts layout base class ≡ Err e → IsRefusal e
  unfolding placing placing_within refusal_of
  placing_states e is =
      subst (λ (r : Option ElfError). IfSome r IsRefusal)
      (answered_refusal (refusal_of parts layout base class) (places_of parts layout base) e is)
      (layout_refuses parts layout base class)

  pub placed_unread : (T : Type 0) (e : ElfError)
      → IfSome (layout_refusal e) (λ d. placing parts layout base class ≡ Err d) → (a b : ℕ)
      → ReadRose {T = T} (Err e) a b
  placed_unread T Memory follows a b = tt
  placed_unread T e follows a b = read_rose_refused T e a b (placing_states e follows)
