-- An image of ranges, as a command writes it to a new file.
use Rattle.std.specs.Prelude.{◌≡◌, ◌≤◌, ◌<◌, ◌-◌, ◌^◌, ℕ, Bool, false, List, [], ◌∷◌, Option, Some, None, is_some, IfSome, IsTrue, Result, Ok, Err, if◌then◌else◌}
use Rattle.elf_outside.specs.Asks.{Leaves}
use Rattle.elf_outside.specs.Counts.{Rose}
use Rattle.elf_outside.specs.declared.sources.Source.{Ghosts as SourceGhosts}
use Rattle.elf_outside.specs.declared.sinks.Sink.{Ghosts as SinkGhosts}
use Rattle.elf_outside.specs.declared.file_sets.Files.{Ghosts as FilesGhosts}
use Rattle.tool_files.specs.elf_descriptor.State.{State}
use Rattle.tool_output.specs.declared.stops.Stop.{Stop}
use Rattle.tool_output.specs.declared.outputs.Outputs.{Outputs}
use Rattle.tool_output.specs.Files.{LeavesFilesBy}
use Rattle.tool_output.specs.Made.{made_file, outcome_with, MakesFile}
use Rattle.tool_output.specs.Outcomes.{Does}
use Rattle.tool_output.specs.Reports.{no_report}
use Rattle.tool_output.specs.Statuses.{refused_status}
use Rattle.rebuild_plan.specs.rebuild_image.declared.ranges.images.RangedImage.{RangedImage}
use Rattle.rebuild_plan.specs.rebuild_image.Ranges.Images.{ranged_text}
use Rattle.rebuild_plan.specs.rebuild_image.Ranges.Ranges.{KeptSource, bytes_of_source, kept_of_source, kept_of_parts}
use Rattle.rebuild_plan.specs.declared.plans.RangedPlan.{RangedPlan}
use Rattle.rebuild_plan.specs.Plans.{kept_with}

-- ---- What is written

-- the bytes of an image, where its source tells them
abbrev pub image_text : {S : Type 0} → SourceGhosts S → RangedImage S → Option (List ℕ)
image_text g i =
    if is_some (g.holds i.parts.source)
    then Some (ranged_text (kept_of_parts g i.parts) i.plan i.end) else None

-- and those of a plan
abbrev pub text_with : KeptSource → RangedPlan → Option (List ℕ)
text_with k x = if k.told then Some (ranged_text (kept_with k x) x.plan x.end) else None

-- over a source
abbrev pub plan_text : {S : Type 0} → SourceGhosts S → S → RangedPlan → Option (List ℕ)
plan_text g s x = text_with (kept_of_source g s) x

-- the base of an object is its source's bytes, which are told where those are
pub record IsOverSource {S : Type 0} (g : SourceGhosts S) (e : State S) : Type 0 where
  pub base : e.o.base ≡ bytes_of_source g e.source
  pub told : e.told ≡ is_some (g.holds e.source)

-- ---- A step that makes a file

-- These bytes are the new file of a name, or the step stops on the way. The source of the image
-- holds what it held, and the file that is made is closed again.
pub record MakesPlan {S F D : Type 0} (s : SourceGhosts S) (f : FilesGhosts F D) (name : List ℕ)
    (text : Option (List ℕ)) (result : Result (Unit {0}) Stop) (source_old source_new : S)
    (files_old files_new : F) : Type 0 where
  pub makes : MakesFile f name text result (s.faults source_old) (s.faults source_new)
      files_old files_new
  pub source : Leaves s source_old source_new
  pub later : s.faults source_old ≤ s.faults source_new
  pub live : f.live files_old < 2 ^ 64 - 2 → f.live files_new ≡ f.live files_old

-- it refuses nothing
abbrev pub refuses_nothing : Result (Unit {0}) Stop → Result Bool Stop
refuses_nothing (Ok x) = Ok false
refuses_nothing (Err stop) = Err stop

-- These bytes are written to a new file, or the step stops on the way. The source of the image
-- holds what it held, the file that is made is closed again, and the step stops by Read only where
-- a read of the source failed.
pub record WritesImage {S F D O E : Type 0} (s : SourceGhosts S) (f : FilesGhosts F D)
    (o : SinkGhosts O) (e : SinkGhosts E) (out : List ℕ) (text : Option (List ℕ))
    (result : Result Bool Stop) (source_old source_new : S) (files_old files_new : F)
    (old new : Outputs O E) : Type 0 where
  pub does : IsTrue (f.tells files_old) → IfSome text (λ bytes.
      Does f o e refused_status (outcome_with no_report (made_file out bytes ∷ []))
      result files_old files_new old new)
  pub source : Leaves s source_old source_new
  pub later : s.faults source_old ≤ s.faults source_new
  pub live : f.live files_old < 2 ^ 64 - 2 → f.live files_new ≡ f.live files_old
  pub leaves : LeavesFilesBy f o e (Rose (s.faults source_old) (s.faults source_new)) result
      files_old files_new old new
