-- A script in a file: its calls, or why it is refused.
use Rattle.std.specs.Prelude.{◌≡◌, ◌≤◌, ◌+◌, ◌++◌, ℕ, List, codes, decimal, Option, Some, None, IfSome, IfOk, IfErr, Result, Ok, Err}
use Rattle.elf_outside.specs.Asks.{Leaves}
use Rattle.elf_outside.specs.Counts.{Rose}
use Rattle.elf_outside.specs.declared.sources.Source.{Ghosts}
use Rattle.elf_outside.specs.declared.sinks.Sink.{Ghosts as SinkGhosts}
use Rattle.tool_output.specs.declared.stops.Stop.{Stop}
use Rattle.tool_output.specs.declared.stops.Stop.TheVariants.{Memory}
use Rattle.tool_output.specs.declared.outputs.Outputs.{Outputs}
use Rattle.tool_output.specs.Names.{Name}
use Rattle.tool_output.specs.Reports.{Report, no_report, refusal_report}
use Rattle.tool_output.specs.Steps.{Performs, LeavesOutputs, OnRead, OnWrite}
use Rattle.elf_calls_script.specs.declared.calls.Call.{Call}
use Rattle.elf_calls_script.specs.declared.faults.Why.{Why}
use Rattle.elf_calls_script.specs.Texts.{why_text}
use Rattle.elf_calls_script.specs.Script.{calls_of}
use Rattle.calls_tool.specs.declared.scripts.BadLine.{BadLine}

-- `line N: TEXT`
unfoldable pub bad_line_text : BadLine → List ℕ
bad_line_text bad = codes "line " ++ decimal bad.line ++ codes ": " ++ why_text bad.why

-- a fault as it is handed on
abbrev pub with_line : Result (List Call) (ℕ × Why) → Result (List Call) BadLine
with_line (Ok calls) = Ok calls
with_line (Err fault) = Err (record { line = fault.0; why = fault.1 })

-- the calls of a script, or its first bad line
unfoldable pub script_calls : List ℕ → Result (List Call) BadLine
script_calls bytes = with_line (calls_of bytes)

-- the calls that bytes say, or the first bad line; it stops by Memory alone
pub record IsScript (result : Result (Result (List Call) BadLine) Stop) (bytes : List ℕ)
    : Type 0 where
  pub value : IfOk result (λ read. read ≡ script_calls bytes)
  pub stop : IfErr result (λ stop. stop ≡ Memory)

-- It answers what the script says, where the source tells its bytes. It asks for no more than the
-- script's bytes, stops by Read only where a read failed, and never by Write.
pub record ReadsScript {S : Type 0} (g : Ghosts S)
    (result : Result (Result (List Call) BadLine) Stop) (old new : S) : Type 0 where
  pub value : IfSome (g.holds old) (λ bytes. IfOk result (λ read. read ≡ script_calls bytes))
  pub source : Leaves g old new
  pub later : g.faults old ≤ g.faults new
  pub taken : g.taken new ≤ g.taken old + g.size old
  pub read : OnRead result (Rose (g.faults old) (g.faults new))
  pub write : OnWrite result ⊥

-- ---- What is said of it

-- its calls, or the text that says why there are none
abbrev pub calls_or_text : Result (List Call) BadLine → Result (List Call) (List ℕ)
calls_or_text (Ok calls) = Ok calls
calls_or_text (Err bad) = Err (bad_line_text bad)

-- nothing is said of a script with calls, and one without is refused
unfoldable pub script_report : Name → Result (List Call) (List ℕ) → Report
script_report name (Ok calls) = no_report
script_report name (Err text) = refusal_report (codes "calls") name text

abbrev pub calls_if_any : Result (List Call) (List ℕ) → Option (List Call)
calls_if_any (Ok calls) = Some calls
calls_if_any (Err text) = None

-- It answers the calls of the script, or none and the message that says why, where the source tells
-- its bytes. It asks for no more than the script's bytes, and stops by Read only where a read
-- failed.
pub record TellsScript {S O E : Type 0} (s : Ghosts S) (o : SinkGhosts O) (e : SinkGhosts E)
    (name : Name) (result : Result (Option (List Call)) Stop) (source_old source_new : S)
    (old new : Outputs O E) : Type 0 where
  pub says : IfSome (s.holds source_old) (λ bytes.
      Performs o e result old new
      (script_report name (calls_or_text (script_calls bytes))).marks
      (calls_if_any (calls_or_text (script_calls bytes))))
  pub source : Leaves s source_old source_new
  pub later : s.faults source_old ≤ s.faults source_new
  pub taken : s.taken source_new ≤ s.taken source_old + s.size source_old
  pub leaves :
      LeavesOutputs o e (Rose (s.faults source_old) (s.faults source_new)) result old new
