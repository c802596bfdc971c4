-- What strip gives of the object of a file.
use Rattle.std.specs.Prelude.{ℕ, Bool, List, Result, Ok}
use Rattle.elf_types.specs.declared.errors.ElfError.{ElfError}
use Rattle.elf_types.specs.Answers.{◌>>=◌}
use Rattle.rebuild_files.specs.elfkit_outcomes.elf_object.Object.{Object}
use Rattle.rebuild_files.specs.elfkit_outcomes.rebuild_model.Removed.{removed_sections}
use Rattle.rebuild_files.specs.elfkit_outcomes.Strip.{strip_alone}
use Rattle.tool_output.specs.Made.{Done, Complaint, made_file_alone, of_file}

-- the file of what was made anew, or why there is none
abbrev pub stripped_done : List ℕ → List ℕ → Result (List ℕ) ElfError → Result Done Complaint
stripped_done file out r = of_file file r >>= λ bytes. Ok (made_file_alone out bytes)

abbrev pub object_done : Bool → List (List ℕ) → List ℕ → List ℕ → Object → Result Done Complaint
object_done debug_only names file out o =
    strip_alone o (removed_sections debug_only names o) out file
