-- What the calls of a script say and leave, run on an object one after another.
use Rattle.std.specs.Prelude.{◌≡◌, ◌≤◌, ◌⊎◌, ℕ, Bool, List, map, take, length, Option, None, Result, Ok, Err, OnOk, OnErr, IsTrue, IfSome, IfNone}
use Rattle.elf_types.specs.declared.errors.ElfError.{ElfError}
use Rattle.elf_outside.specs.declared.sources.Source.{Ghosts as SourceGhosts}
use Rattle.elf_outside.specs.declared.sinks.Sink.{Ghosts as SinkGhosts}
use Rattle.symbol_lookup.specs.elf_object.Object.{Object}
use Rattle.symbol_lookup.specs.elf_object.Calls as calls
use Rattle.symbol_lookup.specs.elf_object.Calls.{step}
use Rattle.symbol_lookup.specs.elf_object.Runs.{answers_to, left_by}
use Rattle.symbol_lookup.specs.elf_descriptor.State.{State}
use Rattle.tool_output.specs.declared.stops.Stop.{Stop}
use Rattle.tool_output.specs.declared.outputs.Outputs.{Outputs}
use Rattle.tool_output.specs.Stops.{stop_of}
use Rattle.tool_output.specs.Reports.{Report, Reports, shown_report, found, reports_of}
use Rattle.tool_output.specs.Steps.{LeavesOutputs}
use Rattle.tool_objects.specs.Steps.{SourceRose}
use Rattle.elf_calls_script.specs.declared.calls.Call.{Call}
use Rattle.elf_calls_apply.specs.declared.answers.Answer.{Answer}
use Rattle.elf_calls_apply.specs.declared.answers.Answer.TheVariants.{Refused, Size}
use Rattle.elf_calls_apply.specs.Stated.{stated_call}
use Rattle.calls_tool.specs.Lines.{answer_line}
use Rattle.calls_tool.specs.Reads.{read_by, LeavesState, ReadsDueHomes}

-- the calls of the plain object that those of a script stand for
abbrev pub stated_calls : List Call → List (calls.Call Answer)
stated_calls cs = map stated_call cs

-- ---- What is said

-- the line of an answer; that of a refusal refuses
unfoldable pub answer_report : Result Answer ElfError → Report
answer_report (Ok a) = shown_report (answer_line a)
answer_report (Err e) = found (answer_line (Refused e))

-- the lines of the answers, in the order of the calls
unfoldable pub calls_report : List Call → Object → Report
calls_report cs o = reports_of answer_report (answers_to (stated_calls cs) o)

-- what is said of the update that follows the calls: the length of the image, or the refusal
unfoldable pub update_report : Result ℕ ElfError → Report
update_report (Ok n) = shown_report (answer_line (Size n))
update_report (Err e) = found (answer_line (Refused e))

-- ---- An answer

-- why an answer stops the run, if it does
abbrev pub stop_in : Result Answer ElfError → Option Stop
stop_in (Ok a) = None
stop_in (Err e) = stop_of e

-- its line is written, or the run stops and nothing is
pub record ShowsAnswer {O E : Type 0} (o : SinkGhosts O) (e : SinkGhosts E)
    (answer : Result Answer ElfError) (result : Result Bool Stop) (old new : Outputs O E)
    : Type 0 where
  pub reports : IfNone (stop_in answer) (Reports o e result old new (answer_report answer))
  pub stops : IfSome (stop_in answer) (λ stop. (result ≡ Err stop) × (new ≡ old))
  pub leaves : IfNone (stop_in answer) (LeavesOutputs o e ⊥ result old new)

-- ---- One call

-- Its line is written and the object is the stepped one, where the source tells its bytes; where
-- the run stops, the object is that or the one before.
pub record RunsCall {S O E : Type 0} (s : SourceGhosts S) (o : SinkGhosts O) (e : SinkGhosts E)
    (c : calls.Call Answer) (result : Result Bool Stop) (old new : State S)
    (outputs_old outputs_new : Outputs O E) : Type 0 where
  pub lines : IsTrue old.told
      → Reports o e result outputs_old outputs_new (answer_report (c.answer old.o))
  pub left : IsTrue old.told → OnOk result (new.o ≡ step c old.o)
  pub stopped : IsTrue old.told → OnErr result ((new.o ≡ old.o) ⊎ (new.o ≡ step c old.o))
  pub reads : ReadsDueHomes s result old new (c.reads old.o)
  pub state : LeavesState s old new
  pub leaves : LeavesOutputs o e (SourceRose s old new) result outputs_old outputs_new

-- ---- All calls

-- so many of the calls were run
pub record IsLeftByFirstCalls (cs : List Call) (old new : Object) : Type 0 where
  pub count : ℕ
  pub within : count ≤ length cs
  pub left : new ≡ left_by (stated_calls (take count cs)) old

-- Their lines are written, the object is the one that they leave, and they read no more than is
-- stated, where the source tells its bytes; where the run stops, the object is the one that the
-- first of them leave. It stops by Read only where a read of the source failed.
pub record RunsCalls {S O E : Type 0} (s : SourceGhosts S) (o : SinkGhosts O) (e : SinkGhosts E)
    (cs : List Call) (result : Result Bool Stop) (old new : State S)
    (outputs_old outputs_new : Outputs O E) : Type 0 where
  pub lines : IsTrue old.told
      → Reports o e result outputs_old outputs_new (calls_report cs old.o)
  pub left : IsTrue old.told → OnOk result (new.o ≡ left_by (stated_calls cs) old.o)
  pub stopped : IsTrue old.told → OnErr result (IsLeftByFirstCalls cs old.o new.o)
  pub reads : IsTrue old.told → ReadsDueHomes s result old new (read_by (stated_calls cs) old.o)
  pub state : LeavesState s old new
  pub leaves : LeavesOutputs o e (SourceRose s old new) result outputs_old outputs_new
