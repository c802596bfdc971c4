-- A translation by numbers is one by what they stand for.
use Rattle.std.proofs.Common.{◌≡◌, ℕ, List, subst}
use Rattle.elf_types.specs.declared.records.Class.{Class}
use Rattle.elf_types.specs.declared.records.Order.{Order}
use Rattle.elf_types.specs.declared.records.Kind.{Kind}
use Rattle.elf_xlate.specs.Translation.{decoded}
use Rattle.c_calls.specs.Translation.Translations.{Translates}

pub translated_by : (k kind : Kind) (c class : Class) (f from : Order) (t to : Order)
    (number : ℕ) (old new : List ℕ) → k ≡ kind → c ≡ class → f ≡ from → t ≡ to
    → Translates c t (decoded k c f old) number old new
    → Translates class to (decoded kind class from old) number old new
translated_by k kind c class f from t to number old new is_kind is_class is_from is_to came =
    subst (λ (x : Order). Translates class x (decoded kind class from old) number old new) is_to
    (subst (λ (x : Order). Translates class t (decoded kind class x old) number old new) is_from
    (subst (λ (x : Class). Translates x t (decoded kind x f old) number old new) is_class
    (subst (λ (x : Kind). Translates c t (decoded x c f old) number old new) is_kind came)))
