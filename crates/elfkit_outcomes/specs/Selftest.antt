-- The self test: an image that is generated, written, opened again, and told of in five lines.
use Rattle.std.specs.Prelude.{ℕ, List, [], ◌∷◌, Result, Ok, codes}
use Rattle.elf_types.specs.Answers.{◌>>=◌}
use Rattle.rebuild_model.specs.elf_object.Open.{opened}
use Rattle.rebuild_model.specs.Generated.{generated_and_shifted, told_lines}
use Rattle.rebuild_model.specs.Files.{file_of}
use Rattle.tool_objects.specs.tool_output.Outcomes.{Outcome}
use Rattle.tool_objects.specs.tool_output.Made.{Done, Complaint, written_outcome, made_file, of_file}

unfoldable pub selftest_done : List ℕ → ℕ → Result Done Complaint
selftest_done out n =
    of_file out (file_of (generated_and_shifted n)) >>= λ bytes.
    of_file out (opened bytes) >>= λ o.
    of_file out (told_lines n o) >>= λ lines.
    Ok (record { shown = lines; writes = made_file out bytes ∷ [] })

unfoldable pub selftest_outcome : List ℕ → ℕ → Outcome
selftest_outcome out n = written_outcome (codes "selftest") (selftest_done out n)
