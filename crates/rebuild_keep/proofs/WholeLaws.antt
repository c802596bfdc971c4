-- What is known of an object that was read, and is left as it was.
use Rattle.std.proofs.Common.{◌≡◌, ℕ, Bool, false, List, Option, sym, ap, ◌∙◌, subst}
use Rattle.rebuild_making.specs.elf_object.Object.{Object, is_dirty}
use Rattle.rebuild_making.specs.elf_object.Valid.{IsObject}
use Rattle.elf_update_plan.specs.elf_descriptor.State.{State}
use Rattle.rebuild_making.specs.Based.{IsMadeOver}
use Rattle.rebuild_numbers.specs.rebuild_select.Steps.{IsRemovable}
use Rattle.rebuild_keep.specs.declared.keepers.Keeper.{Keeper}
use Rattle.rebuild_keep.specs.Keepers.{KeepsFor}

module _ {S : Type 0} (old mid : State S) (object : mid.o ≡ old.o) (told : mid.told ≡ old.told)
  where
    pub object_stays : IsObject old.o → IsObject mid.o
    object_stays is = subst IsObject (sym object) is

    pub clean_stays : is_dirty old.o ≡ false → is_dirty mid.o ≡ false
    clean_stays is = ap is_dirty object ∙ is

    pub removable_stays : (removed : List ℕ) → IsRemovable old.o removed → IsRemovable mid.o removed
    removable_stays removed is = subst (λ (o : Object). IsRemovable o removed) (sym object) is

    pub keeps_stays : (k : Keeper) → KeepsFor old.told old.o k → KeepsFor mid.told mid.o k
    keeps_stays k is =
        subst (λ (t : Bool). KeepsFor t mid.o k) (sym told)
        (subst (λ (o : Object). KeepsFor old.told o k) (sym object) is)

    pub created_stays : {M : Type 0} (tail : Option ℕ) (made : State M)
        → IsMadeOver old.told old.o tail made → IsMadeOver mid.told mid.o tail made
    created_stays tail made is =
        subst (λ (t : Bool). IsMadeOver t mid.o tail made) (sym told)
        (subst (λ (o : Object). IsMadeOver old.told o tail made) (sym object) is)
