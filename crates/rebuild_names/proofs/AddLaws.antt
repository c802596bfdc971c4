-- A name that is added to a table, and its place.
use Rattle.std.proofs.Common.{◌≡◌, ◌⊎◌, ◌↔◌, ◌-◌, ◌^◌, ◌<◌, ◌≤◌, ◌++◌, ℕ, Bool, true, false, List, [], ◌∷◌, length, Option, Some, None, Result, Ok, Err, refl, sym, ap, ◌∙◌, subst, inl, inr}
use Rattle.std.specs.Prelude.{IfOk, IfErr}
use Rattle.std.proofs.lemmas.Bool.{cases_lt, both_ways}
use Rattle.elf_types.specs.declared.errors.ElfError.{ElfError}
use Rattle.elf_types.specs.declared.errors.ElfError.TheVariants.{Memory, TooLarge}
use Rattle.strtab_shared.specs.strtab_build.Table.{table}
use Rattle.rebuild_names.specs.Names.{is_too_large_error, IsAdded, IsPlaceAppended, IsAddedAt}

-- ---- What a refusal tells

too_large_is : (e : ElfError) → is_too_large_error e ≡ true → e ≡ TooLarge
too_large_is TooLarge is = refl
too_large_is e is = let no : false ≡ true = is in cc

memory_else : (e : ElfError) → (e ≡ TooLarge) ⊎ (e ≡ Memory) → is_too_large_error e ≡ false
    → e ≡ Memory
memory_else e (inl large) is = absurd (both_ways (is_too_large_error e) is (ap is_too_large_error large))
memory_else e (inr memory) is = memory

pub fits_ok : (place n : ℕ)
    → (◌≡◌ {A = Result ℕ ElfError} (Ok place) (Err TooLarge) ↔ (2 ^ 32 - 1 < n))
    → n ≤ 2 ^ 32 - 1
fits_ok place n says = elim (cases_lt (2 ^ 32 - 1) n) [
  | inl large ↦ absurd (let no : ◌≡◌ {A = Result ℕ ElfError} (Ok place) (Err TooLarge) =
      says.1 large in cc)
  | inr fits ↦ fits
]

large_err : (e : ElfError) (n : ℕ)
    → (◌≡◌ {A = Result ℕ ElfError} (Err e) (Err TooLarge) ↔ (2 ^ 32 - 1 < n))
    → e ≡ TooLarge → 2 ^ 32 - 1 < n
large_err e n says is =
    let same : ◌≡◌ {A = Result ℕ ElfError} (Err e) (Err TooLarge) =
    ap (λ (d : ElfError). Err d) is in
    says.0 same

pub err_added : (e : ElfError) (r : Result (Option ℕ) ElfError) (old new : List (List ℕ))
    (name : List ℕ)
    → (◌≡◌ {A = Result ℕ ElfError} (Err e) (Err TooLarge)
    ↔ (2 ^ 32 - 1 < length (table (old ++ name ∷ []))))
    → IfOk r (λ place. (place ≡ None) × (is_too_large_error e ≡ true))
    → IfOk r (IsAdded old new name)
err_added e (Ok place) old new name says is =
    subst (IsAdded old new name) (sym is.0)
    (large_err e (length (table (old ++ name ∷ []))) says (too_large_is e is.1))
err_added e (Err d) old new name says is = tt

pub err_memory : (e : ElfError) (r : Result (Option ℕ) ElfError)
    → (e ≡ TooLarge) ⊎ (e ≡ Memory)
    → IfErr r (λ other. (other ≡ e) × (is_too_large_error e ≡ false)) → IfErr r (λ d. d ≡ Memory)
err_memory e (Ok place) refusals is = tt
err_memory e (Err d) refusals is = is.0 ∙ memory_else e refusals is.1

-- ---- A name and its place

pub added_at : (old new : List (List ℕ)) (name places more : List ℕ) (place : Option ℕ)
    (r : Result Bool ElfError) → IsAdded old new name place → IfOk r (IsPlaceAppended places more place)
    → IfOk r (λ fits. IsAddedAt old new places more name fits)
added_at old new name places more place (Err e) added placed = tt
added_at old new name places more None (Ok fits) large placed =
    subst (λ (b : Bool). IsAddedAt old new places more name b) (sym placed) large
added_at old new name places more (Some place) (Ok fits) added placed =
    subst (λ (b : Bool). IsAddedAt old new places more name b) (sym placed.0)
    (added.0, placed.1 ∙ ap (λ (k : ℕ). places ++ k ∷ []) added.1, added.2)

-- over other words for what was before
pub placed_as : (old mid new : List (List ℕ)) (places between more name copy : List ℕ)
    (r : Result Bool ElfError) → mid ≡ old → between ≡ places → copy ≡ name
    → IfOk r (λ fits. IsAddedAt mid new between more copy fits)
    → IfOk r (λ fits. IsAddedAt old new places more name fits)
placed_as old mid new places between more name copy r strings_are places_are copy_is placed =
    subst (λ (l : List ℕ). IfOk r (λ fits. IsAddedAt old new places more l fits)) copy_is
    (subst (λ (l : List ℕ). IfOk r (λ fits. IsAddedAt old new l more copy fits)) places_are
    (subst (λ (l : List (List ℕ)). IfOk r (λ fits. IsAddedAt l new between more copy fits))
    strings_are placed))
