-- The sections of an object, by number.
use Rattle.std.proofs.Common.{◌≡◌, Result, Ok, ◌<◌, ◌≤◌, ◌+◌, ℕ, drop, arith}
use Rattle.std.specs.List.{range_with_len}
use Rattle.std.proofs.lemmas.List.FromFn.{length-range_with_len, get_or-range_with_len}
use Rattle.elf_types.specs.declared.errors.ElfError.{ElfError}
use Rattle.tool_output.specs.Reports.{Report, no_report, joined_reports, reports_of}
use Rattle.tool_output.proofs.UnderWayLemmas.{reports_left, no_reports_left}

-- what a call that is not refused answers
pub ok_value_is : {T : Type 0} (a b : T) → ◌≡◌ {A = Result T ElfError} (Ok a) (Ok b) → a ≡ b
ok_value_is a b h = cc

-- what is left of a report on numbers
module _ (report : ℕ → Report) (n : ℕ) where
  pub number_left : (i : ℕ) → i < n
      → reports_of report (drop i (range_with_len 0 n)) ≡ joined_reports (report i) (reports_of report (drop (i + 1) (range_with_len 0 n)))
  number_left i lt =
      reports_left report (range_with_len 0 n) i i (omega (arith, length-range_with_len 0 n)) (omega (arith, get_or-range_with_len 0 n i i lt))

  pub no_number_left : (i : ℕ) → n ≤ i → reports_of report (drop i (range_with_len 0 n)) ≡ no_report
  no_number_left i le = no_reports_left report (range_with_len 0 n) i (omega (arith, length-range_with_len 0 n))
