-- The images of two plans, as a command writes them to two new files; and the image of one plan
-- that is copied out of two sources.
use Rattle.std.specs.Prelude.{◌≡◌, ◌⊎◌, ◌≤◌, ◌<◌, ◌-◌, ◌^◌, ℕ, Bool, List, [], ◌∷◌, ◌++◌, is_some, IfSome, IsTrue, OnOk, Result, Ok}
use Rattle.elf_outside.specs.Asks.{Leaves}
use Rattle.elf_outside.specs.Counts.{Rose}
use Rattle.elf_outside.specs.declared.sources.Source.{Ghosts as SourceGhosts}
use Rattle.elf_outside.specs.declared.sinks.Sink.{Ghosts as SinkGhosts}
use Rattle.elf_outside.specs.declared.file_sets.Files.{Ghosts as FilesGhosts}
use Rattle.tool_output.specs.declared.stops.Stop.{Stop}
use Rattle.tool_output.specs.declared.outputs.Outputs.{Outputs}
use Rattle.tool_output.specs.Files.{LeavesFilesBy}
use Rattle.tool_output.specs.Made.{made_file, outcome_with}
use Rattle.tool_output.specs.Outcomes.{Does}
use Rattle.tool_output.specs.Reports.{no_report}
use Rattle.tool_output.specs.Statuses.{refused_status}
use Rattle.rebuild_files.specs.tool_files.Making.{InOrder}
use Rattle.rebuild_debug.specs.rebuild_image.Ranges.Ranges.{bytes_of_source}
use Rattle.rebuild_debug.specs.rebuild_plan.declared.plans.RangedPlan.{RangedPlan}
use Rattle.rebuild_debug.specs.rebuild_plan.Plans.{CopiesAs}
use Rattle.rebuild_files.specs.Writing.{MakesPlan, plan_text}
use Rattle.unstrip_tool.specs.declared.names.HalfNames.{HalfNames}
use Rattle.unstrip_tool.specs.declared.plans.SplitPlans.{SplitPlans}

-- the first file is not made, and the step stops
pub record StopsFirst {S F D : Type 0} (s : SourceGhosts S) (f : FilesGhosts F D)
    (names : HalfNames) (plans : SplitPlans) (result : Result (Unit {0}) Stop)
    (source_old source_new : S) (files_old files_new : F) : Type 0 where
  pub stopped : OnOk result ⊥
  pub first : MakesPlan s f names.stripped.now (plan_text s source_old plans.stripped) result
      source_old source_new files_old files_new

-- it is made, and then the second is, or the step stops
pub record MakesSecond {S F D : Type 0} (s : SourceGhosts S) (f : FilesGhosts F D)
    (names : HalfNames) (plans : SplitPlans) (result : Result (Unit {0}) Stop)
    (source_old source_new : S) (files_old files_new : F) : Type 0 where
  pub source : S
  pub files : F
  pub first : MakesPlan s f names.stripped.now (plan_text s source_old plans.stripped) (Ok tt)
      source_old source files_old files
  pub second : MakesPlan s f names.debug.now (plan_text s source_old plans.debug) result
      source source_new files files_new

abbrev pub MakesBoth : {S F D : Type 0} → SourceGhosts S → FilesGhosts F D → HalfNames → SplitPlans
    → Result (Unit {0}) Stop → S → S → F → F → Type 0
MakesBoth s f names plans result source_old source_new files_old files_new =
    StopsFirst s f names plans result source_old source_new files_old files_new
    ⊎ MakesSecond s f names plans result source_old source_new files_old files_new

-- The bytes of both are written to new files, or the step stops on the way: then the second name
-- holds what it held, or the first file is whole. The source holds what it held, the files that are
-- made are closed again, and the step stops by Read only where a read of the source failed.
pub record WritesHalves {S F D O E : Type 0} (s : SourceGhosts S) (f : FilesGhosts F D)
    (o : SinkGhosts O) (e : SinkGhosts E) (names : HalfNames) (plans : SplitPlans)
    (result : Result Bool Stop) (source_old source_new : S) (files_old files_new : F)
    (old new : Outputs O E) : Type 0 where
  pub does : IsTrue (f.tells files_old)
      → IfSome (plan_text s source_old plans.stripped) (λ bytes.
      IfSome (plan_text s source_old plans.debug) (λ others.
      Does f o e refused_status (outcome_with no_report
      (made_file names.stripped.now bytes ∷ made_file names.debug.now others ∷ []))
      result files_old files_new old new))
  pub order : InOrder f names.stripped.now names.debug.now
      (plan_text s source_old plans.stripped) result files_old files_new
  pub source : Leaves s source_old source_new
  pub later : s.faults source_old ≤ s.faults source_new
  pub live : f.live files_old < 2 ^ 64 - 2 → f.live files_new ≡ f.live files_old
  pub leaves : LeavesFilesBy f o e (Rose (s.faults source_old) (s.faults source_new)) result
      files_old files_new old new

-- ---- Out of two sources

-- The bytes of a plan over those of the first source and then those of the second are written to a
-- new file, where both tell their bytes, or the step stops on the way. Both hold what they held,
-- the file that is made is closed again, and the step stops by Read only where a read of one
-- failed.
pub record WritesPair {S T F D O E : Type 0} (s : SourceGhosts S) (t : SourceGhosts T)
    (f : FilesGhosts F D) (o : SinkGhosts O) (e : SinkGhosts E) (out : List ℕ) (plan : RangedPlan)
    (result : Result Bool Stop) (first_old first_new : S) (second_old second_new : T)
    (files_old files_new : F) (old new : Outputs O E) : Type 0 where
  pub does : IsTrue (f.tells files_old) → IsTrue (is_some (s.holds first_old))
      → IsTrue (is_some (t.holds second_old)) → (bytes : List ℕ)
      → CopiesAs (bytes_of_source s first_old ++ bytes_of_source t second_old) plan bytes
      → Does f o e refused_status (outcome_with no_report (made_file out bytes ∷ []))
      result files_old files_new old new
  pub first : Leaves s first_old first_new
  pub second : Leaves t second_old second_new
  pub live : f.live files_old < 2 ^ 64 - 2 → f.live files_new ≡ f.live files_old
  pub leaves : LeavesFilesBy f o e ((0 < s.faults first_new) ⊎ (0 < t.faults second_new)) result
      files_old files_new old new
