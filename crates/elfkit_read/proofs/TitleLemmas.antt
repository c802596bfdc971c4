-- A command that writes a text first.
use Rattle.std.proofs.Common.{Bool, ℕ, List, Result, Ok, Err}
use Rattle.elf_outside.specs.declared.sinks.Sink.{Ghosts as SinkGhosts}
use Rattle.elf_outside.specs.declared.file_sets.Files.{Ghosts as FilesGhosts}
use Rattle.tool_output.specs.declared.stops.Stop.{Stop}
use Rattle.tool_output.specs.declared.outputs.Outputs.{Outputs}
use Rattle.tool_output.specs.declared.outputs.Side.TheVariants.{Out}
use Rattle.tool_output.specs.Marks.{said}
use Rattle.tool_output.specs.Reports.{Reports, shown_report}
use Rattle.tool_output.specs.Outcomes.{Outcome, Does}
use Rattle.tool_output.proofs.StepLemmas.{writes_then, writes_stop}
use Rattle.tool_output.proofs.OutcomeLemmas.{nothing_done}
use Rattle.elfkit_read.specs.Size.{outcome_behind_text}

module _ {F D O E T : Type 0} (f : FilesGhosts F D) (o : SinkGhosts O) (e : SinkGhosts E) (code : T → ℕ) (stated : Outcome) (text : List ℕ) (a b : F) (s t : Outputs O E) where
  pub behind_done : (r : Result T Stop) (x : Bool) (u : Outputs O E) → Reports o e (Ok x) s t (shown_report text) → Does f o e code stated r a b t u
      → Does f o e code (outcome_behind_text text stated) r a b s u
  unfolding shown_report outcome_behind_text
  behind_done r x u h d = record {
    writes = writes_then o e x r s t u (said Out text) stated.marks h.writes d.writes;
    status = d.status;
    files = d.files;
    left = d.left;
    asks = d.asks;
    gives = d.gives;
  }

  pub behind_stopped : (stop : Stop) → Reports o e (Err stop) s t (shown_report text) → Does f o e code (outcome_behind_text text stated) (Err stop) a a s t
  unfolding shown_report outcome_behind_text
  behind_stopped stop h =
      let nothing = nothing_done f o e code stated stop a s in record {
        writes = writes_stop o e stop s t (said Out text) stated.marks h.writes;
        status = tt;
        files = tt;
        left = nothing.left;
        asks = tt;
        gives = nothing.gives;
      }
