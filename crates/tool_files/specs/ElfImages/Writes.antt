-- Commands that write one file of the image of another one, while that is open.
use Rattle.std.specs.Prelude.{◌≡◌, ◌≤◌, ◌<◌, ◌-◌, ◌^◌, ℕ, Bool, List, IsTrue, Result, Ok}
use Rattle.elf_types.specs.declared.errors.ElfError.{ElfError}
use Rattle.elf_types.specs.Answers.{◌>>=◌}
use Rattle.elf_outside.specs.Asks.{Leaves}
use Rattle.elf_outside.specs.Names.{Map}
use Rattle.elf_outside.specs.declared.sources.Source.{Ghosts as SourceGhosts}
use Rattle.elf_outside.specs.declared.sinks.Sink.{Ghosts as SinkGhosts}
use Rattle.elf_outside.specs.declared.file_sets.Files.{Ghosts as FilesGhosts}
use Rattle.elfkit_outcomes.specs.elf_object.Object.{Object}
use Rattle.elf_update_plan.specs.elf_descriptor.State.{State}
use Rattle.elf_update_plan.specs.elf_descriptor.Begun.{IsBegun}
use Rattle.elf_update_plan.specs.elf_descriptor.Sound.{IsSound}
use Rattle.elfkit_outcomes.specs.rebuild_model.Files.{file_of}
use Rattle.elfkit_outcomes.specs.Files.{object_named}
use Rattle.tool_output.specs.declared.stops.Stop.{Stop}
use Rattle.tool_output.specs.declared.outputs.Outputs.{Outputs}
use Rattle.tool_output.specs.Statuses.{refused_status}
use Rattle.tool_output.specs.Files.{LeavesFilesBy}
use Rattle.tool_output.specs.Outcomes.{Outcome, Does}
use Rattle.tool_output.specs.Made.{Done, Complaint, made_file_alone, of_file}
use Rattle.elfkit_outcomes.specs.tool_objects.Steps.{SourceRose}

-- an object that was made of a file is written, or refused
abbrev pub written_done : List ℕ → List ℕ → Object → Result Done Complaint
written_done file out o = of_file file (file_of o) >>= λ bytes. Ok (made_file_alone out bytes)

-- what is done by the object of a file: what is no image has the message that says why
abbrev pub image_done : (List ℕ → Object → Result Done Complaint) → List ℕ
    → Result Object ElfError → Result Done Complaint
image_done done file r = of_file file r >>= λ o. done file o

-- and by what a name holds
abbrev pub named_done : (List ℕ → Object → Result Done Complaint) → Map → List ℕ
    → Result Done Complaint
named_done done named file = object_named named file >>= λ o. done file o

-- a descriptor that has begun over a file, and on which nothing was called since
pub record HasBegun {S : Type 0} (s : SourceGhosts S) (e : State S) : Type 0 where
  pub source : S
  pub begun : IsBegun s source e
  pub sound : IsSound (s.holds e.source) e.o

-- A step does what is stated, where the source tells its bytes. The source of the object holds what
-- it held, the file that is made is closed again and nothing is asked of it, and the step stops by
-- Read only where a read of the source failed.
pub record WritesFile {S F D O E : Type 0} (s : SourceGhosts S) (f : FilesGhosts F D)
    (o : SinkGhosts O) (e : SinkGhosts E) (stated : Outcome) (result : Result Bool Stop)
    (old new : State S) (files_old files_new : F) (outputs_old outputs_new : Outputs O E)
    : Type 0 where
  pub does : IsTrue (f.tells files_old) → IsTrue old.told
      → Does f o e refused_status stated result files_old files_new outputs_old outputs_new
  pub source : Leaves s old.source new.source
  pub later : s.faults old.source ≤ s.faults new.source
  pub live : f.live files_old < 2 ^ 64 - 2 → f.live files_new ≡ f.live files_old
  pub leaves : LeavesFilesBy f o e (SourceRose s old new) result files_old files_new
      outputs_old outputs_new
