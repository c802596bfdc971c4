-- The file of a name among those that a run writes, and what the name holds then.
use Rattle.std.proofs.Common.{◌≡◌, ◌⊎◌, inl, inr, ℕ, Bool, true, false, List, [], ◌∷◌, Option, Some, refl, ap}
use Rattle.std.specs.Prelude.{bytes_eq, if◌then◌else◌}
use Rattle.std.specs.Option.{option_map}
use Rattle.std.proofs.lemmas.Slice.Eq.{bytes_eq-Decides}
use Rattle.tool_output.specs.declared.statuses.Status.{Status}
use Rattle.tool_output.specs.Statuses.{status_code}
use Rattle.tool_output.specs.Outcomes.{FileWrite, Outcome, Delivers, write_of, held_after}
use Rattle.law_run.specs.Runs.{Around}

-- a run that delivers an outcome
abbrev pub IsRunOf : Outcome → Status → Around → Type 0
IsRunOf x status run =
    Delivers x (status_code status)
    run.out_old run.out_new run.err_old run.err_new run.named_old run.named_new

-- the first file has the name, or a later one
pub found_either : (first : FileWrite) (later : List FileWrite) (name : List ℕ) (w : FileWrite)
    → write_of (first ∷ later) name ≡ Some w
    → ((first ≡ w) × (first.name ≡ name)) ⊎ (write_of later name ≡ Some w)
unfolding write_of
found_either first later name w e = by_test (bytes_eq first.name name) (both first.name) e
  where
    both : (text : List ℕ) → bytes_eq text name ≡ true → text ≡ name
    both text same = (bytes_eq-Decides text name).0 same

    by_test : (b : Bool) → (b ≡ true → first.name ≡ name)
        → ◌≡◌ {A = Option FileWrite} (if b then Some first else write_of later name) (Some w)
        → ((first ≡ w) × (first.name ≡ name)) ⊎ (write_of later name ≡ Some w)
    by_test true same h = let is : first ≡ w = cc in inl (is, same refl)
    by_test false other h = inr h

pub nothing_found : (name : List ℕ) (w : FileWrite) → write_of [] name ≡ Some w → ⊥
unfolding write_of
nothing_found name w e = cc

-- of one file alone
pub only_found : (first : FileWrite) (name : List ℕ) (w : FileWrite)
    → write_of (first ∷ []) name ≡ Some w → (first ≡ w) × (first.name ≡ name)
only_found first name w e = by_place (found_either first [] name w e)
  where
    by_place : ((first ≡ w) × (first.name ≡ name)) ⊎ (write_of [] name ≡ Some w)
        → (first ≡ w) × (first.name ≡ name)
    by_place (inl is) = is
    by_place (inr none) = absurd (nothing_found name w none)

-- a file that is made anew
pub held_anew : (w : FileWrite) (old : Option (List ℕ)) → w.in_place ≡ false
    → held_after (Some w) old ≡ Some w.bytes
held_anew w old anew =
    ap (λ (b : Bool). if b then option_map (λ _. w.bytes) old else Some w.bytes) anew
