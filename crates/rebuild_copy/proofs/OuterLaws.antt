-- What ends copy before it looks at a section: the names that are removed can not be read, or there
-- is no memory.
use Rattle.std.proofs.Common.{◌≡◌, ◌⊎◌, ℕ, Bool, false, List, [], Result, Ok, Err, refl, sym, subst, inl, inr}
use Rattle.std.specs.Prelude.{IfSome}
use Rattle.elf_types.specs.declared.errors.ElfError.{ElfError}
use Rattle.elf_types.specs.declared.errors.ElfError.TheVariants.{Memory, Read, Write}
use Rattle.elf_outside.specs.Asks.{ReadRose}
use Rattle.elf_object.specs.Object.{Object}
use Rattle.elf_object.specs.Words.{Wants, Answers}
use Rattle.rebuild_model.specs.Removed.{with_found, with_followers, is_named, removed_by_name}
use Rattle.rebuild_model.specs.Copied.{CopyFault as StatedFault}
use Rattle.rebuild_edits.specs.rebuild_select.Steps.{IsRemovable}
use Rattle.rebuild_edits.proofs.rebuild_select.TopLaws.{are_removable}
use Rattle.rebuild_object.specs.rebuild_keep.Answers.{EarlyBy, early_refusal}
use Rattle.rebuild_changes.specs.declared.faults.CopyFault.{CopyFault}
use Rattle.rebuild_changes.specs.declared.faults.CopyFault.TheVariants as faults
use Rattle.rebuild_changes.specs.Stated.{stated_copy_fault, IsWithoutDeviceFault, outer_result}

-- ---- What was asked for

-- an answer in which nothing was read
pub unread_rose : {T : Type 0} (r : Result T CopyFault) (a b : ℕ) → IsWithoutDeviceFault r
    → ReadRose (outer_result r) a b
unread_rose (Ok x) a b unread = tt
unread_rose (Err (faults.Strip Read)) a b unread = absurd unread
unread_rose (Err (faults.Strip Write)) a b unread = absurd unread
unread_rose (Err (faults.Strip e)) a b unread = tt
unread_rose (Err (faults.NoSection name)) a b unread = tt
unread_rose (Err (faults.NoBytes name)) a b unread = tt
unread_rose (Err (faults.Allocated name)) a b unread = tt
unread_rose (Err (faults.Fixed name)) a b unread = tt
unread_rose (Err faults.NoTable) a b unread = tt

-- ---- What is removed

pub removable_by_name : (names : List (List ℕ)) (o : Object)
    → IsRemovable o (removed_by_name names o)
unfolding removed_by_name
removable_by_name names o =
    are_removable o false (with_found o (λ before s. is_named names o s) [])
    (Ok (with_followers o false (with_found o (λ before s. is_named names o s) []))) refl

pub ok_values_same : {A : Type 0} (a b : A) → ◌≡◌ {A = Result A ElfError} (Ok a) (Ok b) → a ≡ b
ok_values_same a b is = cc

-- ---- The names could not be read

pub outer_only : (e : ElfError) (told : Bool) (w : Wants) (x : List ℕ)
    → Answers told w (Err e) (Ok x) → (e ≡ Memory) ⊎ (e ≡ Read)
outer_only Memory told w x is = inl refl
outer_only Read told w x is = inr refl
outer_only e told w x is = cc

pub outer_given : {A : Type 0} (e : ElfError) → (e ≡ Memory) ⊎ (e ≡ Read)
    → (r : Result A StatedFault)
    → IfSome (stated_copy_fault (faults.Strip e)) (λ d. r ≡ Err d)
outer_given e (inl is) r =
    subst (λ (x : ElfError). IfSome (stated_copy_fault (faults.Strip x)) (λ d. r ≡ Err d))
    (sym is) tt
outer_given e (inr is) r =
    subst (λ (x : ElfError). IfSome (stated_copy_fault (faults.Strip x)) (λ d. r ≡ Err d))
    (sym is) tt

pub outer_early : (e : ElfError) → (e ≡ Memory) ⊎ (e ≡ Read) → (o : Object) (removed : List ℕ)
    → EarlyBy (early_refusal o removed) e
outer_early e (inl is) o removed =
    subst (λ (x : ElfError). EarlyBy (early_refusal o removed) x) (sym is) tt
outer_early e (inr is) o removed =
    subst (λ (x : ElfError). EarlyBy (early_refusal o removed) x) (sym is) tt
