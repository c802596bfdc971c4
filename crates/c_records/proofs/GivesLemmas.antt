-- An answer that came gives what is stated.
use Rattle.std.proofs.Common.{◌≡◌, ◌⊎◌, inl, inr, ℕ, Bool, true, Some, None, Result, Ok, Err, IsTrue, refl, sym, subst, arith}
use Rattle.elf_types.specs.declared.errors.ElfError.{ElfError}
use Rattle.elf_types.specs.declared.errors.ElfError.TheVariants.{Memory, Read, Write}
use Rattle.elf_outside.specs.Counts.{Rose}
use Rattle.elf_outside.specs.Asks.{ReadRose}
use Rattle.elf_object.specs.Words.{Wants, Refusals, Answers, AnswersRead}
use Rattle.c_records.specs.Codes.{code}
use Rattle.c_records.specs.Gives.{GivesInCForm, GivesRead}

-- a count that stays 0 has not risen
never_rose : Rose 0 0 → ⊥
never_rose rose = omega (arith, rose)

module _ {A C : Type 0} (form : A → C) (stated : Result A ElfError) (old : C) where
  -- a value that is the stated one
  pub given : (x : A) (new : C) → Ok x ≡ stated → new ≡ form x → GivesInCForm form stated 0 old new
  given x new is made = subst (λ (s : Result A ElfError). GivesInCForm form s 0 old new) is (refl, made)

  -- a refusal that is the stated one
  pub refused : (e : ElfError) (number : ℕ) → Err e ≡ stated → number ≡ code e
      → GivesInCForm form stated number old old
  refused e number is told =
      subst (λ (s : Result A ElfError). GivesInCForm form s number old old) is (told, refl)

  module _ (told : Bool) (tells : told ≡ true) (wants : Wants) where
    pub read_given : (x : A) (new : C) → new ≡ form x → Answers told wants (Ok x) stated
        → GivesRead form wants stated 0 old new
    unfolding GivesRead
    read_given x new made came = inl (given x new (sym (came.1 tells)) made)

    -- a call that never answers Read
    pub read_refused : (e : ElfError) (number : ℕ) → number ≡ code e → ReadRose {T = A} (Err e) 0 0
        → Answers told wants (Err e) stated → GivesRead form wants stated number old old
    unfolding GivesRead
    read_refused Memory number is rose came = inr (came.0, is, refl)
    read_refused Read number is rose came = absurd (never_rose rose)
    read_refused Write number is rose came = absurd rose
    read_refused e number is rose came = inl (refused e number (sym came) is)

    module _ (r : Refusals) where
      pub found_given : (x : A) (new : C) → new ≡ form x → AnswersRead told wants r (Ok x) stated
          → GivesRead form wants stated 0 old new
      unfolding GivesRead
      found_given x new made came = inl (given x new (sym (came.1 tells)) made)

      found_stated : (e : ElfError)
          → ((r.early ≡ Some e) × (stated ≡ Err e))
          ⊎ ((r.early ≡ None) × r.met e × (IsTrue told → stated ≡ Err e)) → stated ≡ Err e
      found_stated e (inl early) = early.1
      found_stated e (inr met) = met.2 tells

      pub found_refused : (e : ElfError) (number : ℕ) → number ≡ code e
          → ReadRose {T = A} (Err e) 0 0
          → AnswersRead told wants r (Err e) stated → GivesRead form wants stated number old old
      unfolding GivesRead
      found_refused Memory number is rose came = inr (came.1, is, refl)
      found_refused Read number is rose came = absurd (never_rose rose)
      found_refused Write number is rose came = absurd rose
      found_refused e number is rose came =
          inl (refused e number (sym (found_stated e came)) is)
