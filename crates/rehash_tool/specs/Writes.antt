-- What rehash gives of an object.
use Rattle.std.specs.Prelude.{ℕ, Bool, true, false, List, Result, Err}
use Rattle.elf_types.specs.Answers.{◌>>=◌}
use Rattle.elf_object.specs.Object.{Object}
use Rattle.rebuild_model.specs.Rehashed.{RehashFault}
use Rattle.rebuild_model.specs.Rehashed.RehashFault.{NoDynamicHash}
use Rattle.tool_output.specs.Made.{Done, Complaint, complaint}
use Rattle.elfkit_outcomes.specs.Strip.{or_complaint}
use Rattle.elfkit_outcomes.specs.Copy.{rehash_text}
use Rattle.tool_files.specs.ElfImages.Writes.{written_done}

-- of an object whose hash sections were built anew, or that has none
abbrev pub done_by : Bool → List ℕ → List ℕ → Object → Result Done Complaint
done_by true file out o = written_done file out o
done_by false file out o = Err (complaint file (rehash_text NoDynamicHash))

-- of what is stated of it
abbrev pub rehashed_done : List ℕ → List ℕ → Result Object RehashFault → Result Done Complaint
rehashed_done file out r =
    or_complaint (λ fault. complaint file (rehash_text fault)) r >>= λ o. written_done file out o
