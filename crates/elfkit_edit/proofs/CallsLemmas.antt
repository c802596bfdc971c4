-- The command calls: a script is read, and then a file.
use Rattle.std.proofs.Common.{◌≡◌, ◌≢◌, ◌+◌, ◌≤◌, ℕ, Bool, true, List, [], length, codes, Option, Some, None, Result, Ok, Err, IfSome, IsTrue, refl, sym, arith}
use Rattle.std.specs.Prelude.{OnOk}
use Rattle.std.proofs.lemmas.Result.{on_ok_weaker}
use Rattle.elf_outside.specs.Names.{Map}
use Rattle.elf_outside.specs.declared.sinks.Sink.{Ghosts as SinkGhosts}
use Rattle.elf_outside.specs.declared.file_sets.Files.{Ghosts as FilesGhosts}
use Rattle.tool_output.specs.declared.stops.Stop.{Stop}
use Rattle.tool_output.specs.declared.outputs.Outputs.{Outputs}
use Rattle.tool_output.specs.Marks.{Mark}
use Rattle.tool_output.specs.Names.{file_name}
use Rattle.tool_output.specs.Reports.{no_report, refusal_report}
use Rattle.tool_output.specs.Steps.{Performs}
use Rattle.tool_output.specs.Statuses.{refused_status}
use Rattle.tool_output.specs.Files.{report_on, asks_on, both_bounds, IsWithin, LeavesFiles, ReportsFiles}
use Rattle.tool_output.specs.Outcomes.{Does, report_outcome}
use Rattle.tool_output.proofs.StepLemmas.{keeps_then, writes_went, writes_then, writes_stop, writes_nothing, stops_as}
use Rattle.tool_output.proofs.FileLemmas.{within_both, told_after, only_reads_then, totals_then, leaves_stop, report_on_same, asks_on_same}
use Rattle.tool_output.proofs.OutcomeLemmas.{reads_done}
use Rattle.elf_calls_script.specs.declared.calls.Call.{Call}
use Rattle.calls_tool.specs.Scripts.{script_report, calls_if_any}
use Rattle.calls_tool.specs.Files.{calls_file_report}
use Rattle.elfkit_edit.specs.Calls.{script_of, script_asks, ReadsCalls, calls_report_by, calls_file_asks, calls_asks_by, calls_outcome}

-- ---- Bounds

within_none : (p : Option ℕ) (a b : ℕ) → IsWithin p a b → IsWithin (both_bounds p (Some 0)) a b
within_none p a b h = within_both p (Some 0) a b b h (omega arith)

-- ---- The outcome, by what the script says

module _ {F D O E : Type 0} (f : FilesGhosts F D) (o : SinkGhosts O) (e : SinkGhosts E) (file script : List ℕ) (a b : F) (s t : Outputs O E) where
  module _ (c : F) (u : Outputs O E) (cs : List Call) (r : Result Bool Stop) (h : ReadsCalls f o e script (Ok (Some cs)) a b s t)
      (k : ReportsFiles f o e (λ named. report_on (codes "calls") (calls_file_report cs) named file) r b c t u)
      (within : IsTrue (f.tells b) → OnOk r (IsWithin (asks_on (calls_file_asks cs) (f.named b) file) (f.taken b) (f.taken c))) where
    -- the script has calls, and they were run
    pub calls_done : IsTrue (f.tells a) → Does f o e refused_status (calls_outcome file script (f.named a)) r a c s u
    unfolding calls_outcome script_report no_report
    calls_done told = by_script (script_of (f.named a script)) (h.says told) (h.asks told)
      where
        after : IsTrue (f.tells b)
        after = told_after f o e a b h.reads told

        same : (f.named b) file ≡ (f.named a) file
        same = (h.reads.names told).same file

        by_script : (read : Result (List Call) (List ℕ)) → Performs o e (Ok (Some cs)) s t (script_report (file_name script) read).marks (calls_if_any read)
            → IsWithin (asks_on script_asks (f.named a) script) (f.taken a) (f.taken b)
            → Does f o e refused_status
            (report_outcome (calls_report_by read file script (f.named a)) (both_bounds (asks_on script_asks (f.named a) script) (calls_asks_by read file (f.named a)))) r a c s u
        by_script (Err text) said asked = let never = said.value_is in cc
        by_script (Ok calls) said asked =
            let these : cs ≡ calls = cc in
            let reports = report_on_same o e r t u (codes "calls") (calls_file_report cs) (f.named a) (f.named b) file file same refl (k.reports after) in
            let asks = λ (w : IsWithin (asks_on (calls_file_asks cs) (f.named b) file) (f.taken b) (f.taken c)).
            within_both (asks_on script_asks (f.named a) script) (asks_on (calls_file_asks cs) (f.named a) file) (f.taken a) (f.taken b) (f.taken c) asked
            (asks_on_same (calls_file_asks cs) (f.named a) (f.named b) file file (f.taken b) (f.taken c) same refl w) in
            rw (← these) (reads_done f o e a c s u (report_on (codes "calls") (calls_file_report cs) (f.named a) file)
            (both_bounds (asks_on script_asks (f.named a) script) (asks_on (calls_file_asks cs) (f.named a) file)) r told (only_reads_then f o e a b c h.reads k.reads)
            (on_ok_weaker r asks (within after))
            (record {
              writes = writes_then o e (Some cs) r s t u [] (report_on (codes "calls") (calls_file_report cs) (f.named a) file).marks said.writes reports.writes;
              value_is = reports.value_is;
            }))

  -- the step behind the script
  pub left_then : (c : F) (u : Outputs O E) (x : Option (List Call)) (r : Result Bool Stop)
      → ReadsCalls f o e script (Ok x) a b s t → LeavesFiles f o e r b c t u
      → LeavesFiles f o e r a c s u
  left_then c u x (Ok y) h l = record {
    totals = totals_then f o e a b c h.leaves.totals l.totals;
    keeps = keeps_then o e s t u h.leaves.keeps l.keeps;
    read = tt;
    write = tt;
  }
  left_then c u x (Err stop) h l =
      leaves_stop f o e stop a b c s t u h.leaves.totals h.leaves.keeps l

  -- it has none, and was refused
  pub no_calls_done : ReadsCalls f o e script (Ok None) a b s t → IsTrue (f.tells a) → Does f o e refused_status (calls_outcome file script (f.named a)) (Ok true) a b s t
  unfolding calls_outcome script_report refusal_report
  no_calls_done h told = by_script (script_of (f.named a script)) (h.says told) (h.asks told)
    where
      by_script : (read : Result (List Call) (List ℕ)) → Performs o e (Ok None) s t (script_report (file_name script) read).marks (calls_if_any read)
          → IsWithin (asks_on script_asks (f.named a) script) (f.taken a) (f.taken b)
          → Does f o e refused_status
          (report_outcome (calls_report_by read file script (f.named a)) (both_bounds (asks_on script_asks (f.named a) script) (calls_asks_by read file (f.named a)))) (Ok true) a b s t
      by_script (Ok calls) said asked = let never = said.value_is in cc
      by_script (Err text) said asked =
          reads_done f o e a b s t (refusal_report (codes "calls") (file_name script) text) (both_bounds (asks_on script_asks (f.named a) script) (Some 0)) (Ok true) told h.reads
          (within_none (asks_on script_asks (f.named a) script) (f.taken a) (f.taken b) asked)
          (record { writes = writes_went o e true s t (refusal_report (codes "calls") (file_name script) text).marks said.writes.ok; value_is = refl })

  -- or the run stopped
  pub calls_stopped : (stop : Stop) → ReadsCalls f o e script (Err stop) a b s t → IsTrue (f.tells a)
      → Does f o e refused_status (calls_outcome file script (f.named a)) (Err stop) a b s t
  unfolding calls_outcome script_report no_report
  calls_stopped stop h told = by_script (script_of (f.named a script)) (h.says told)
    where
      by_script : (read : Result (List Call) (List ℕ)) → Performs {T = Option (List Call)} o e (Err stop) s t (script_report (file_name script) read).marks (calls_if_any read)
          → Does f o e refused_status
          (report_outcome (calls_report_by read file script (f.named a)) (both_bounds (asks_on script_asks (f.named a) script) (calls_asks_by read file (f.named a)))) (Err stop) a b s t
      by_script (Ok calls) said =
          reads_done f o e a b s t (report_on (codes "calls") (calls_file_report calls) (f.named a) file) _ (Err stop) told h.reads tt
          (record { writes = writes_stop o e stop s t [] (report_on (codes "calls") (calls_file_report calls) (f.named a) file).marks said.writes; value_is = tt })
      by_script (Err text) said =
          reads_done f o e a b s t (refusal_report (codes "calls") (file_name script) text) _ (Err stop) told h.reads tt
          (record { writes = stops_as o e stop s t (refusal_report (codes "calls") (file_name script) text).marks said.writes; value_is = tt })

-- ---- The script, by what its name holds

module _ {O E : Type 0} (o : SinkGhosts O) (e : SinkGhosts E) (script : List ℕ) (named : Map) (s t : Outputs O E) (r : Result (Option (List Call)) Stop) where
  -- it is not there
  pub script_absent : named script ≡ None → Performs o e r s t (refusal_report (codes "calls") (file_name script) (codes "not found")).marks None
      → Performs o e r s t (script_report (file_name script) (script_of (named script))).marks (calls_if_any (script_of (named script)))
  unfolding script_report
  script_absent is said = rw is said

  -- what the open file holds is what the name does
  pub script_there : (held : Option (List ℕ)) → held ≡ named script → named script ≢ None
      → IfSome held (λ bytes. Performs o e r s t (script_report (file_name script) (script_of (Some bytes))).marks (calls_if_any (script_of (Some bytes))))
      → Performs o e r s t (script_report (file_name script) (script_of (named script))).marks (calls_if_any (script_of (named script)))
  script_there None same there said = absurd (there (sym same))
  script_there (Some bytes) same there said = rw (← same) said

pub script_length : (held : Option (List ℕ)) (size taken : ℕ) → IfSome held (λ bytes. length bytes ≡ size) → taken ≤ 0 + size
    → IfSome held (λ bytes. IsWithin (script_asks bytes) 0 taken)
script_length None size taken sized h = tt
script_length (Some bytes) size taken sized h = omega (arith, sized, h)

-- ---- Steps that do nothing

pub performs_nothing : {O E T : Type 0} (o : SinkGhosts O) (e : SinkGhosts E) (stop : Stop) (s : Outputs O E) (marks : List Mark) (value : T)
    → Performs o e (Err stop) s s marks value
performs_nothing o e stop s marks value = record { writes = writes_nothing o e stop s marks; value_is = tt }
