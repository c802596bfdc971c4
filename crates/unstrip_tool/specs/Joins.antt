-- Two halves that are joined, and the file of what they are halves of.
use Rattle.std.specs.Prelude.{◌≡◌, ◌<◌, ◌+◌, ◌-◌, ◌^◌, ℕ, Bool, List, codes, IsTrue, Option, Result}
use Rattle.elf_types.specs.Answers.{or_refused, ◌>>=◌}
use Rattle.elf_outside.specs.declared.sinks.Sink.{Ghosts as SinkGhosts}
use Rattle.elf_outside.specs.declared.file_sets.Files.{Ghosts as FilesGhosts}
use Rattle.elf_object.specs.Object.{Object}
use Rattle.rebuild_model.specs.Arranged.{Rebuilt}
use Rattle.rebuild_model.specs.Split.{unstripped, UnstripFault}
use Rattle.rebuild_files.specs.elfkit_outcomes.Strip.{unstrip_complaint, or_complaint}
use Rattle.tool_output.specs.declared.stops.Stop.{Stop}
use Rattle.tool_output.specs.declared.outputs.Outputs.{Outputs}
use Rattle.tool_output.specs.Statuses.{refused_status}
use Rattle.tool_output.specs.Files.{LeavesFilesBy}
use Rattle.tool_output.specs.Outcomes.{Does}
use Rattle.tool_output.specs.Made.{Done, Complaint, complaint, of_file, written_outcome}
use Rattle.rebuild_files.specs.tool_objects.Images.{file_object}
use Rattle.rebuild_files.specs.tool_files.ElfImages.Writes.{written_done}
use Rattle.unstrip_tool.specs.declared.names.HalfNames.{HalfNames}

-- ---- What is stated

-- the file of what two halves are joined to, or why there is none
abbrev pub joined_done : List ℕ → HalfNames → Result Rebuilt UnstripFault → Result Done Complaint
joined_done out names r =
    or_complaint (unstrip_complaint names.stripped.now names.debug.now) r
    >>= λ r. written_done names.stripped.now out r.object

-- by the objects of both
abbrev pub objects_done : List ℕ → HalfNames → Object → Object → Result Done Complaint
objects_done out names stripped debug = joined_done out names (unstripped stripped debug)

-- the object of a file, by what its name holds: one that is not there, and one that is no image,
-- has the message that says so
abbrev pub held_object : List ℕ → Option (List ℕ) → Result Object Complaint
held_object file held =
    or_refused held (complaint file (codes "not found")) >>= λ image.
    of_file file (file_object image)

-- by the object of the first, and what the name of the second holds
abbrev pub debug_done : List ℕ → HalfNames → Option (List ℕ) → Object → Result Done Complaint
debug_done out names held stripped =
    held_object names.debug.now held >>= λ debug. objects_done out names stripped debug

-- by what both names hold
abbrev pub halves_joined : List ℕ → HalfNames → Option (List ℕ) → Option (List ℕ)
    → Result Done Complaint
halves_joined out names held debug =
    held_object names.stripped.now held >>= λ stripped. debug_done out names debug stripped

-- ---- A step beside files that are open

-- It does what is stated, where the files and what it is stated of are known. It has at most
-- `opens` further files open at a time, which it closes again. It stops by Read only for the cause
-- that is given: each file that is open counts its failed reads by itself.
pub record WritesBeside {F D O E : Type 0} (f : FilesGhosts F D) (o : SinkGhosts O)
    (e : SinkGhosts E) (opens : ℕ) (reads known : Type 0) (stated : Result Done Complaint)
    (result : Result Bool Stop) (files_old files_new : F) (outputs_old outputs_new : Outputs O E)
    : Type 0 where
  pub does : IsTrue (f.tells files_old) → known → Does f o e refused_status
      (written_outcome (codes "unstrip") stated) result files_old files_new
      outputs_old outputs_new
  pub live : f.live files_old + opens < 2 ^ 64 - 1 → f.live files_new ≡ f.live files_old
  pub leaves : LeavesFilesBy f o e reads result files_old files_new outputs_old outputs_new
