-- The command calls with -o and -i: a script is read, and then a file is made while another one is
-- open, or the open one is changed.
use Rattle.std.proofs.Common.{◌≡◌, ◌≢◌, ◌+◌, ℕ, Bool, true, false, List, [], codes, Option, Some, None, Result, Ok, Err, IsTrue, if◌then◌else◌, refl, sym, ap, subst, arith}
use Rattle.std.specs.Str.{bytes_eq}
use Rattle.std.proofs.lemmas.Slice.Eq.{bytes_eq-Decides}
use Rattle.elf_types.specs.declared.errors.ElfError.{ElfError}
use Rattle.elf_outside.specs.Names.{Map}
use Rattle.elf_outside.specs.declared.sinks.Sink.{Ghosts as SinkGhosts}
use Rattle.elf_outside.specs.declared.file_sets.Files.{Ghosts as FilesGhosts}
use Rattle.elf_object.specs.Object.{Object}
use Rattle.elf_object.specs.Calls as calls
use Rattle.elf_object.specs.Runs.{left_by}
use Rattle.elf_object.specs.Image.{image}
use Rattle.calls_tool.specs.declared.update.outputs.CallsOutput.{CallsOutput}
use Rattle.calls_tool.specs.declared.update.outputs.CallsOutput.TheVariants.{To, InPlace}
use Rattle.tool_output.specs.declared.stops.Stop.{Stop}
use Rattle.tool_output.specs.declared.outputs.Outputs.{Outputs}
use Rattle.tool_output.specs.Names.{file_name}
use Rattle.tool_output.specs.Reports.{no_report, refusal_report}
use Rattle.tool_output.specs.Steps.{Performs}
use Rattle.tool_output.specs.Statuses.{refused_status}
use Rattle.tool_output.specs.Files.{asks_on, both_bounds, IsWithin}
use Rattle.tool_output.specs.Outcomes.{Outcome, FileWrite, report_outcome, write_of, Does}
use Rattle.tool_output.specs.Made.{made_file}
use Rattle.tool_output.proofs.StepLemmas.{writes_went, stops_as}
use Rattle.tool_output.proofs.OutcomeLemmas.{reads_done}
use Rattle.tool_output.proofs.MadeLemmas.{does_then, stopped_done}
use Rattle.elfkit_outcomes.specs.tool_objects.Images.{file_object}
use Rattle.tool_files.specs.Edits.{edited_outcome}
use Rattle.tool_files.proofs.ChangeSteps.{other_write}
use Rattle.elf_calls_script.specs.declared.calls.Call.{Call}
use Rattle.calls_tool.specs.Runs.{stated_calls}
use Rattle.calls_tool.specs.Scripts.{script_report, calls_if_any}
use Rattle.calls_tool.specs.Files.{calls_asks}
use Rattle.calls_tool.specs.Update.Updates.{write_by, updated_writes, updated_outcome, updated_by}
use Rattle.elfkit_edit.specs.Calls.{script_of, script_asks, ReadsCalls, updated_held, updated_script, calls_update_outcome}

-- ---- Bounds

bounds_again : (p : Option ℕ) (a b : ℕ)
    → both_bounds p (Some (a + b)) ≡ both_bounds (both_bounds p (Some a)) (Some b)
bounds_again None a b = refl
bounds_again (Some n) a b =
    let same : n + (a + b) ≡ n + a + b = omega arith in ap (λ (m : ℕ). Some m) same

bounds_none : (p : Option ℕ) → both_bounds p (Some 0) ≡ p
bounds_none None = refl
bounds_none (Some n) = let same : n + 0 ≡ n = omega arith in ap (λ (m : ℕ). Some m) same

-- ---- The file that is made has another name

pub unwritten : (cs : List Call) (out file bytes : List ℕ) → out ≢ file
    → write_of (updated_by (To out) cs file (Some (calls_asks cs bytes)) (file_object bytes)).writes
    file ≡ None
unfolding updated_outcome report_outcome write_of
unwritten cs out file bytes differ = by (file_object bytes)
  where
    by_test : (w : FileWrite) (b : Bool) → bytes_eq out file ≡ b
        → (if b then Some w else None) ≡ None
    by_test w true is = absurd (differ ((bytes_eq-Decides out file).0 is))
    by_test w false is = refl

    by_answer : (o : Object) (answer : Result ℕ ElfError)
        → write_of (updated_writes (made_file out (image o)) answer) file ≡ None
    by_answer o (Err e) = refl
    by_answer o (Ok n) = by_test (made_file out (image o)) (bytes_eq out file) refl

    by : (res : Result Object ElfError)
        → write_of (updated_by (To out) cs file (Some (calls_asks cs bytes)) res).writes file
        ≡ None
    by (Err e) = refl
    by (Ok o) =
        let left = left_by (stated_calls cs) o in by_answer left (calls.update_null.answer left)

-- ---- The file that is changed is the only one

pub others_unwritten : (cs : List Call) (file bytes other : List ℕ) → other ≢ file
    → write_of (updated_by InPlace cs file (Some (calls_asks cs bytes)) (file_object bytes)).writes
    other ≡ None
unfolding updated_outcome report_outcome write_of
others_unwritten cs file bytes other differ = by (file_object bytes)
  where
    by_answer : (o : Object) (answer : Result ℕ ElfError)
        → write_of (updated_writes (write_by InPlace file (image o)) answer) other ≡ None
    by_answer o (Err e) = refl
    by_answer o (Ok n) = other_write (write_by InPlace file (image o)) other differ

    by : (res : Result Object ElfError)
        → write_of (updated_by InPlace cs file (Some (calls_asks cs bytes)) res).writes other
        ≡ None
    by (Err e) = refl
    by (Ok o) =
        let left = left_by (stated_calls cs) o in by_answer left (calls.update_null.answer left)

-- ---- What is stated of FILE, behind what was asked for before

-- a step that asks for no more than a bound, and then what is stated
abbrev behind : Option ℕ → Outcome → Outcome
behind asked stated = record stated { asks = both_bounds asked stated.asks }

-- what is stated of FILE, by its name and its bytes
abbrev pub edits_of : CallsOutput → List Call → List ℕ → List ℕ → Outcome
edits_of output cs file bytes =
    updated_by output cs file (Some (calls_asks cs bytes)) (file_object bytes)

module _ (output : CallsOutput) (cs : List Call) (file : List ℕ) (asked : Option ℕ) where
  by_object : (n : ℕ) (res : Result Object ElfError)
      → behind asked (updated_by output cs file (Some n) res)
      ≡ updated_by output cs file (both_bounds asked (Some n)) res
  unfolding updated_outcome report_outcome
  by_object n (Ok o) =
      ap (λ (bound : Option ℕ). record (updated_outcome output cs file asked o) { asks = bound })
      (bounds_again asked n _)
  by_object n (Err e) = refl

  held_is : (named : Map) (held : Option (List ℕ)) → named file ≡ held
      → behind asked (edited_outcome (codes "calls") (edits_of output cs) file named)
      ≡ updated_held output cs file asked held
  unfolding edited_outcome report_outcome
  held_is named (Some bytes) is = rw is (by_object (calls_asks cs bytes) (file_object bytes))
  held_is named None is =
      rw is (ap (λ (bound : Option ℕ).
      record (report_outcome (refusal_report (codes "calls") (file_name file) (codes "not found"))
      asked) { asks = bound }) (bounds_none asked))

-- ---- The outcome, by what the script says

module _ {F D O E : Type 0} (f : FilesGhosts F D) (o : SinkGhosts O) (e : SinkGhosts E)
    (output : CallsOutput) (file script : List ℕ) (a b : F) (s t : Outputs O E) where
  abbrev script_bound : Option ℕ
  script_bound = asks_on script_asks (f.named a) script

  abbrev DoesBy : Result (List Call) (List ℕ) → Result Bool Stop → F → Outputs O E → Type 0
  DoesBy read r c u =
      Does f o e refused_status
      (updated_script output read file script script_bound (f.named a file)) r a c s u

  -- the script has calls, and the file was made by them
  pub update_done : (c : F) (u : Outputs O E) (cs : List Call) (r : Result Bool Stop)
      → ReadsCalls f o e script (Ok (Some cs)) a b s t
      → (IsTrue (f.tells b) → Does f o e refused_status
      (edited_outcome (codes "calls") (edits_of output cs) file (f.named b)) r b c t u)
      → IsTrue (f.tells a) → Does f o e refused_status
      (calls_update_outcome output file script (f.named a)) r a c s u
  unfolding calls_update_outcome script_report no_report
  update_done c u cs r h k told =
      by_script (script_of (f.named a script)) (h.says told) (h.asks told)
    where
      by_script : (read : Result (List Call) (List ℕ))
          → Performs o e (Ok (Some cs)) s t
          (script_report (file_name script) read).marks (calls_if_any read)
          → IsWithin script_bound (f.taken a) (f.taken b) → DoesBy read r c u
      by_script (Err text) said within = let never = said.value_is in cc
      by_script (Ok these) said within =
          let same : cs ≡ these = cc in
          let names = h.reads.names told in
          rw (← same) (subst
          (λ (stated : Outcome). Does f o e refused_status stated r a c s u)
          (held_is output cs file script_bound (f.named b) (f.named a file) (names.same file))
          (does_then f o e refused_status
          (edited_outcome (codes "calls") (edits_of output cs) file (f.named b)) []
          script_bound (Some cs) r a b c s t u told h.reads within said.writes
          (k (subst (λ (q : Bool). IsTrue q) (sym names.same_tells) told))))

  -- it has none, and was refused
  pub no_update_done : ReadsCalls f o e script (Ok None) a b s t → IsTrue (f.tells a)
      → Does f o e refused_status (calls_update_outcome output file script (f.named a))
      (Ok true) a b s t
  unfolding calls_update_outcome script_report refusal_report
  no_update_done h told = by_script (script_of (f.named a script)) (h.says told) (h.asks told)
    where
      by_script : (read : Result (List Call) (List ℕ))
          → Performs o e (Ok None) s t
          (script_report (file_name script) read).marks (calls_if_any read)
          → IsWithin script_bound (f.taken a) (f.taken b) → DoesBy read (Ok true) b t
      by_script (Ok cs) said within = let never = said.value_is in cc
      by_script (Err text) said within =
          reads_done f o e a b s t (refusal_report (codes "calls") (file_name script) text) script_bound
          (Ok true) told h.reads within (record {
            writes = writes_went o e true s t
                (refusal_report (codes "calls") (file_name script) text).marks said.writes.ok;
            value_is = refl;
          })

  -- or the run stopped
  pub update_stopped : (stop : Stop) → ReadsCalls f o e script (Err stop) a b s t
      → IsTrue (f.tells a) → Does f o e refused_status
      (calls_update_outcome output file script (f.named a)) (Err stop) a b s t
  unfolding calls_update_outcome script_report no_report
  update_stopped stop h told = by_script (script_of (f.named a script)) (h.says told)
    where
      by_script : (read : Result (List Call) (List ℕ))
          → Performs {T = Option (List Call)} o e (Err stop) s t
          (script_report (file_name script) read).marks (calls_if_any read)
          → DoesBy read (Err stop) b t
      by_script (Ok cs) said =
          let stated = updated_held output cs file script_bound (f.named a file) in
          stopped_done f o e {T = Bool} {U = Option (List Call)} refused_status stated []
          stated.marks stop a b s t refl told h.reads said.writes
      by_script (Err text) said =
          reads_done f o e a b s t (refusal_report (codes "calls") (file_name script) text) script_bound
          (Err stop) told h.reads tt (record {
            writes = stops_as o e stop s t
                (refusal_report (codes "calls") (file_name script) text).marks said.writes;
            value_is = tt;
          })
