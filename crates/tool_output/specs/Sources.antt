-- What a step over a source and the two outputs does.
use Rattle.std.specs.Prelude.{◌≤◌, ℕ, List, Bool, IfSome, Result}
use Rattle.elf_outside.specs.Asks.{Leaves}
use Rattle.elf_outside.specs.Counts.{Rose}
use Rattle.elf_outside.specs.declared.sources.Source.{Ghosts as SourceGhosts}
use Rattle.elf_outside.specs.declared.sinks.Sink.{Ghosts as SinkGhosts}
use Rattle.tool_output.specs.declared.stops.Stop.{Stop}
use Rattle.tool_output.specs.declared.outputs.Outputs.{Outputs}
use Rattle.tool_output.specs.Reports.{Report, Reports}
use Rattle.tool_output.specs.Steps.{LeavesOutputs}

-- It gives the report on the bytes, where the source tells them, and leaves the source and the
-- outputs. It stops by Read only where a read of the source failed.
pub record ReportsOn {S O E : Type 0} (s : SourceGhosts S) (o : SinkGhosts O) (e : SinkGhosts E)
    (report : List ℕ → Report) (result : Result Bool Stop)
    (source_old source_new : S) (old new : Outputs O E) : Type 0 where
  pub reports : IfSome (s.holds source_old)
      (λ image. Reports o e result old new (report image))
  pub source : Leaves s source_old source_new
  pub later : s.faults source_old ≤ s.faults source_new
  pub leaves : LeavesOutputs o e (Rose (s.faults source_old) (s.faults source_new)) result old new
