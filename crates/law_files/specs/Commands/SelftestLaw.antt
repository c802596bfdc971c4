-- What the self test gives, for each number of sections that it takes.
use Rattle.std.specs.Prelude.{◌≡◌, ℕ, ◌≤◌, List, [], ◌∷◌, length, None, Ok}
use Rattle.elfkit_outcomes.specs.elf_object.Valid.{IsObject}
use Rattle.elfkit_outcomes.specs.elf_object.Refusal.{refusal}
use Rattle.elfkit_outcomes.specs.elf_object.Image.{image}
use Rattle.tool_output.specs.Reports.{shown_report}
use Rattle.elfkit_outcomes.specs.rebuild_model.Generated.{generated, generated_and_shifted}
use Rattle.tool_output.specs.Made.{outcome_with, made_file}
use Rattle.elfkit_outcomes.specs.Selftest.{selftest_done, selftest_outcome}
use Rattle.law_files.specs.Commands.SelftestSizes.{selftest_bytes, selftest_lines}

-- what is generated is an object, its update is not refused, and the command makes its image, whose
-- length is stated, and shows the lines that are stated; the file that it opens again is not
-- refused
pub record SelftestGives (out : List ℕ) (n : ℕ) : Type 0 where
  pub object : IsObject (generated n)
  pub updated : refusal (generated_and_shifted n) ≡ None
  pub done : selftest_done out n
      ≡ Ok (record {
        shown = selftest_lines n;
        writes = made_file out (image (generated_and_shifted n)) ∷ [];
      })
  pub outcome : selftest_outcome out n
      ≡ outcome_with
      (shown_report (selftest_lines n))
      (made_file out (image (generated_and_shifted n)) ∷ [])
  pub bytes : length (image (generated_and_shifted n)) ≡ selftest_bytes n

abbrev pub SelftestLaw : Type 0
SelftestLaw = (out : List ℕ) (n : ℕ) → 1 ≤ n → n ≤ 60000 → SelftestGives out n
