-- An answer that came gives what is stated, but for want of memory.
use Rattle.std.proofs.Common.{◌≡◌, inl, inr, ℕ, Result, Ok, Err, IfSome, refl, sym}
use Rattle.elf_types.specs.declared.errors.ElfError.{ElfError}
use Rattle.elf_types.specs.declared.errors.ElfError.TheVariants.{Memory, Read}
use Rattle.elf_types.specs.Answers.{stated_refusal}
use Rattle.elf_outside.specs.Asks.{ReadRose}
use Rattle.c_handles.proofs.objects.ImageLaws.{never_rose}
use Rattle.c_records.specs.Codes.{code}
use Rattle.c_records.proofs.GivesLemmas.{given, refused}
use Rattle.c_calls.specs.Archives.Steps.{GivesOrWants}

module _ {A C : Type 0} (form : A → C) (stated : Result A ElfError) (old : C) where
  pub answer_given : (x : A) (new : C) → stated ≡ Ok x → new ≡ form x
      → GivesOrWants form stated 0 old new
  unfolding GivesOrWants
  answer_given x new is made = inl (given form stated old x new (sym is) made)

  pub answer_refused : (T : Type 0) (e : ElfError) (number : ℕ) → number ≡ code e
      → ReadRose {T = T} (Err e) 0 0 → IfSome (stated_refusal e) (λ d. stated ≡ Err d)
      → GivesOrWants form stated number old old
  unfolding GivesOrWants
  answer_refused T Memory number is rose follows = inr (is, refl)
  answer_refused T Read number is rose follows = absurd (never_rose rose)
  answer_refused T e number is rose follows =
      inl (refused form stated old e number (sym follows) is)
