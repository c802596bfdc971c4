-- What copy gives of the object of a file.
use Rattle.std.specs.Prelude.{ℕ, List, Result, Ok}
use Rattle.elf_types.specs.Answers.{◌>>=◌}
use Rattle.elf_object.specs.Object.{Object}
use Rattle.rebuild_model.specs.Arranged.{Rebuilt}
use Rattle.rebuild_model.specs.Copied.{Changes, CopyFault, copied}
use Rattle.tool_output.specs.Made.{Done, Complaint, made_file_alone, complaint}
use Rattle.rebuild_files.specs.elfkit_outcomes.Strip.{or_complaint}
use Rattle.rebuild_files.specs.elfkit_outcomes.Copy.{copy_text}
use Rattle.rebuild_files.specs.tool_files.ElfImages.Writes.{written_done}

-- what a command of copy is to do: its changes, and the file that it makes
pub record Copying : Type 0 where
  pub changes : Changes
  pub out : List ℕ

abbrev pub copying_of : Changes → List ℕ → Copying
copying_of changes out = record { changes = changes; out = out }

-- the file of what was made with the changes, or why there is none
abbrev pub made_done : List ℕ → List ℕ → Result Rebuilt CopyFault → Result Done Complaint
made_done file out r =
    or_complaint (λ fault. complaint file (copy_text fault)) r >>= λ r.
    written_done file out r.object

abbrev pub copied_done : Changes → List ℕ → List ℕ → Object → Result Done Complaint
copied_done changes file out o = made_done file out (copied changes o)

-- the same by the file
abbrev pub file_done : List ℕ → List ℕ → Result (List ℕ) CopyFault → Result Done Complaint
file_done file out r =
    or_complaint (λ fault. complaint file (copy_text fault)) r >>= λ bytes. Ok
    (made_file_alone out bytes)
