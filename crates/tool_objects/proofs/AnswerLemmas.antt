-- What the answer of a call tells a step: of a value, of a refusal, and of an error that stops.
use Rattle.std.proofs.Common.{◌≡◌, ◌⊎◌, inl, inr, ◌<◌, ◌≤◌, ℕ, Bool, List, length, get_or, Option, Some, None, Result, Ok, Err, IsTrue, refl, sym, ap, ◌∙◌, arith}
use Rattle.std.specs.Prelude.{slice_get, IsSome}
use Rattle.std.proofs.lemmas.Option.{slice_get_cases}
use Rattle.elf_types.specs.declared.errors.ElfError.{ElfError}
use Rattle.elf_types.specs.declared.errors.ElfError.TheVariants as error
use Rattle.gelf_view.specs.elf_object.Words.{Wants, Answers}
use Rattle.gelf_view.specs.elf_object.Answers.{entry_answer}
use Rattle.gelf_view.proofs.elf_object.AnswerLaws.{entry_value}
use Rattle.gelf_view.specs.Chains.{Chain, broken, IsLedBy}
use Rattle.tool_output.specs.Stops.{stop_of}

-- an error that stops nothing is the stated one
pub answers_stated : {A : Type 0} (told : Bool) (wants : Wants) (d : ElfError) (stated : Result A ElfError) → Answers told wants (Err d) stated
    → stop_of d ≡ None → stated ≡ Err d
answers_stated told wants error.Memory stated h none = cc
answers_stated told wants error.Read stated h none = cc
answers_stated told wants error.Write stated h none = cc
answers_stated told wants d stated h none = h

entry_none : {A : Type 0} (refusal : Option ElfError) (l : List A) (i : ℕ) (e : ElfError) → refusal ≡ None → entry_answer refusal l i ≡ Err e → None ≡ slice_get l i
entry_none (Some d) l i e passed is = cc
entry_none {A} None l i e passed is = by_got (slice_get l i) refl is
  where
    by_got : (got : Option A) → slice_get l i ≡ got → entry_answer None l i ≡ Err e → None ≡ slice_get l i
    by_got None none same = sym none
    by_got (Some y) got same = let h : entry_answer None l i ≡ Ok y = ap (λ (r : Option A). elim r [ None ↦ Err (error.NoEntry i (length l)) | Some z ↦ Ok z ]) got in cc

-- an item below the length is there
some_there : {A : Type 0} (xs : List A) (i : ℕ) → slice_get xs i ≡ None → i < length xs → ⊥
some_there {A} xs i none lt = by_case (slice_get_cases xs i).1
  where
    by_case : ((x : A) × (i < length xs) × (slice_get xs i ≡ Some x) × (get_or xs i x ≡ x)) ⊎ ((length xs ≤ i) × (slice_get xs i ≡ None)) → ⊥
    by_case (inl there) = let some = there.2 in cc
    by_case (inr past) = let le = past.0 in omega arith

module _ {A : Type 0} (told : Bool) (wants : Wants) (refusal : Option ElfError) (l : List A) (i : ℕ) where
  pub item_is : (x : A) → Answers told wants (Ok x) (entry_answer refusal l i) → IsTrue told → Some x ≡ slice_get l i
  item_is x came is = sym (entry_value refusal l i x (came.1 is)).1

  pub item_none : (e : ElfError) → refusal ≡ None → stop_of e ≡ None → Answers told wants (Err e) (entry_answer refusal l i) → None ≡ slice_get l i
  item_none e passed none came = entry_none refusal l i e passed (answers_stated told wants e (entry_answer refusal l i) came none)

  -- one that is there is refused by no number
  pub item_stops : (e : ElfError) → refusal ≡ None → i < length l → Answers told wants (Err e) (entry_answer refusal l i) → IsSome (stop_of e)
  item_stops error.Memory passed lt came = refl
  item_stops error.Read passed lt came = refl
  item_stops error.Write passed lt came = refl
  item_stops e passed lt came = absurd (no_err (slice_get l i) refl (sym (ap (λ (r : Option ElfError). entry_answer r l i) passed) ∙ came))
    where
      no_err : (r : Option A) → slice_get l i ≡ r → entry_answer None l i ≡ Err e → ⊥
      no_err None none h = some_there l i none lt
      no_err (Some x) some h = let there : entry_answer None l i ≡ Ok x = ap (λ (r : Option A). elim r [ None ↦ Err (error.NoEntry i (length l)) | Some y ↦ Ok y ]) some in cc

-- an answer that is a refusal is where the chain goes bad
pub led_broken : {A B : Type 0} (e : ElfError) (behind : A → Chain B) (chain : Chain B) → IsLedBy (Err e) behind chain → stop_of e ≡ None → chain ≡ broken e
led_broken error.Memory behind chain h none = cc
led_broken error.Read behind chain h none = cc
led_broken e behind chain h none = h
