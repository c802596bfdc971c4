-- What the public call of a tool does: it gives the report on an object on two outputs.
use Rattle.std.specs.Prelude.{◌≡◌, ℕ, Bool, IsTrue, Result, IfOk}
use Rattle.tool_output.specs.elf_outside.declared.sources.Source.{Ghosts as SourceGhosts}
use Rattle.tool_output.specs.elf_outside.declared.sinks.Sink.{Ghosts as SinkGhosts}
use Rattle.gelf_view.specs.elf_object.Object.{Object}
use Rattle.gelf_view.specs.elf_descriptor.State.{State}
use Rattle.tool_output.specs.declared.stops.Stop.{Stop}
use Rattle.tool_output.specs.Reports.{Report}
use Rattle.tool_output.specs.Steps.{Ended, OnRead, OnWrite, LeavesSinks, SinkRose}
use Rattle.tool_objects.specs.Steps.{LeavesElfOver, WentOn, SourceRose}

-- Both sinks gained the marks of the report on the object, where its source tells its bytes, or a
-- front of them where the call stops. The object stays, by so many passes over its sections. It
-- stops by Read only where a read of the source failed, and by Write only where a put failed.
pub record ShowsOver {S O E : Type 0} (s : SourceGhosts S) (o : SinkGhosts O) (e : SinkGhosts E)
    (passes : ℕ) (report : Object → Report) (result : Result Bool Stop) (old new : State S)
    (out_old out_new : O) (err_old err_new : E) : Type 0 where
  pub ended : IsTrue old.told → Ended result (o.wrote out_old) (o.wrote out_new)
      (e.wrote err_old) (e.wrote err_new) (report old.o).marks
  pub answer : IsTrue old.told → IfOk result (λ refused. refused ≡ (report old.o).refused)
  pub elf : LeavesElfOver s passes (WentOn result) old new
  pub sinks : LeavesSinks o e out_old out_new err_old err_new
  pub read : OnRead result (SourceRose s old new)
  pub write : OnWrite result (SinkRose o e out_old out_new err_old err_new)

-- the same by a tool that lets go of nothing
abbrev pub ShowsElf : {S O E : Type 0} → SourceGhosts S → SinkGhosts O → SinkGhosts E
    → (Object → Report) → Result Bool Stop → State S → State S → O → O → E → E → Type 0
ShowsElf s o e report result old new out_old out_new err_old err_new =
    ShowsOver s o e 0 report result old new out_old out_new err_old err_new
