-- The names of sections.
use Rattle.std.proofs.Common.{◌≡◌, ◌⊎◌, inl, inr, ℕ, Bool, true, false, List, [], ◌∷◌, Some, None, Result, Err, IsTrue, refl, ap, ◌∙◌}
use Rattle.std.specs.Prelude.{filter, if◌then◌else◌}
use Rattle.elf_types.specs.declared.errors.ElfError.{ElfError}
use Rattle.elf_types.specs.declared.errors.ElfError.TheVariants as error
use Rattle.gelf_view.specs.elf_object.Words.{Wants, Refusals, AnswersRead}
use Rattle.tool_output.specs.Stops.{stop_of}
use Rattle.tool_output.specs.Reports.{Report, joined_reports, all_reports_joined, reports_of}
use Rattle.tool_output.proofs.ReportLemmas.{no_report_joined}
use Rattle.tool_objects.specs.Sections.{report_if}

-- ---- The string of a name

-- an error that stops nothing is the stated one
pub read_refused : {A : Type 0} (told : Bool) (wants : Wants) (r : Refusals) (d : ElfError) (stated : Result A ElfError) → AnswersRead told wants r (Err d) stated
    → stop_of d ≡ None → IsTrue told → stated ≡ Err d
read_refused told wants r error.Memory stated h none is = cc
read_refused told wants r error.Read stated h none is = cc
read_refused told wants r error.Write stated h none is = cc
read_refused {A} told wants r d stated h none is = by_sum h
  where
    by_sum : ((r.early ≡ Some d) × (stated ≡ Err d)) ⊎ ((r.early ≡ None) × r.met d × (IsTrue told → stated ≡ Err d)) → stated ≡ Err d
    by_sum (inl early) = early.1
    by_sum (inr met) = met.2 is

-- ---- The sections of a name

module _ (test : ℕ → Bool) (report : ℕ → Report) where
  one_more : (b : Bool) (s : ℕ) (xs : List ℕ) (ys : Report) → ys ≡ reports_of report xs
      → joined_reports (report_if b (report s)) ys ≡ reports_of report (if b then s ∷ xs else xs)
  unfolding reports_of all_reports_joined
  one_more true s xs ys is = ap (joined_reports (report s)) is
  one_more false s xs ys is = no_report_joined ys ∙ is

  -- a report under a condition is one on those that meet it
  pub reports_where : (xs : List ℕ) → reports_of (λ s. report_if (test s) (report s)) xs ≡ reports_of report (filter test xs)
  unfolding reports_of all_reports_joined
  reports_where [] = refl
  reports_where (s ∷ xs) = one_more (test s) s (filter test xs) (reports_of (λ s. report_if (test s) (report s)) xs) (reports_where xs)
