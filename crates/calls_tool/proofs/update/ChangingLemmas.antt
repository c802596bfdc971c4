-- The calls of a script on the image of an open file, and the update in place that follows them.
use Rattle.std.proofs.Common.{◌≡◌, ◌||◌, ◌∷◌, ◌+◌, ◌≤◌, ℕ, Bool, List, [], codes, Option, Some, None, Result, Ok, Err, OnOk, IfSome, IsTrue, refl, sym, ap, ◌∙◌, subst, arith}
use Rattle.std.specs.Prelude.{is_some}
use Rattle.elf_types.specs.declared.errors.ElfError.{ElfError}
use Rattle.elf_types.specs.declared.errors.ElfError.TheVariants as error
use Rattle.elf_types.specs.Answers.{Follows}
use Rattle.elf_types.specs.Text.{error_text}
use Rattle.elf_outside.specs.Asks.{Asks}
use Rattle.elf_outside.specs.declared.sources.Source.{Ghosts as SourceGhosts}
use Rattle.elf_outside.specs.declared.devices.Device.{Ghosts as DeviceGhosts}
use Rattle.elf_outside.specs.declared.sinks.Sink.{Ghosts as SinkGhosts}
use Rattle.elf_ident.specs.Front.{front_bytes}
use Rattle.elf_object.specs.Object.{Object}
use Rattle.elf_object.specs.Open.{begun}
use Rattle.elf_object.specs.Calls as calls
use Rattle.elf_object.specs.Runs.{left_by}
use Rattle.elf_object.specs.Image.{image}
use Rattle.elf_object.specs.Due.{homes_due, update_in_place_due}
use Rattle.elf_object.proofs.DueLaws.{more_than_none, homes_fall, update_in_place_most}
use Rattle.elf_update_plan.specs.elf_descriptor.State.{State}
use Rattle.elf_update_plan.specs.elf_descriptor.Views.{source_bytes}
use Rattle.elf_update_plan.specs.elf_descriptor.Begun.{IsBegun, begun_state}
use Rattle.calls_tool.specs.declared.update.outputs.CallsOutput.TheVariants.{InPlace}
use Rattle.tool_output.specs.declared.stops.Stop.{Stop}
use Rattle.tool_output.specs.declared.stops.Stop.TheVariants.{Read, Write, Memory}
use Rattle.tool_output.specs.declared.outputs.Outputs.{Outputs}
use Rattle.tool_output.specs.Names.{file_name}
use Rattle.tool_output.specs.Reports.{refusal_report}
use Rattle.tool_output.specs.Outcomes.{Outcome}
use Rattle.tool_output.proofs.StepLemmas.{keeps_none}
use Rattle.tool_output.proofs.SourceLemmas.{refused_leaves}
use Rattle.tool_objects.specs.Images.{file_object}
use Rattle.tool_objects.specs.Refusals.{ReportsRefusal}
use Rattle.tool_files.specs.Edits.{unbounded}
use Rattle.tool_files.specs.Changes.{DoesInPlace, LeavesDevice, ChangesFile}
use Rattle.tool_files.proofs.ChangeSteps.{IsUnwritten, leaves_unwritten, outputs_leave, leaves_after, unchanged_nothing, unchanged_report, begun_before, changed_before, changed_before_stop, unchanged_before}
use Rattle.elf_calls_script.specs.declared.calls.Call.{Call}
use Rattle.calls_tool.specs.Reads.{read_by, homes_read}
use Rattle.calls_tool.specs.Runs.{stated_calls, calls_report, update_report, RunsCalls}
use Rattle.calls_tool.specs.Files.{calls_asks}
use Rattle.calls_tool.specs.Update.Updates.{write_by, update_gives, updated_writes, updated_gives, updated_outcome, updated_by}
use Rattle.calls_tool.specs.Update.Changes.{changed_outcome, ChangesLeft, ChangesCalls}
use Rattle.calls_tool.proofs.update.BaseSteps.{left_has_base}

-- ---- The calls, and then the update

module _ {D O E : Type 0} (g : SourceGhosts D) (d : DeviceGhosts D) (o : SinkGhosts O)
    (e : SinkGhosts E)
    (begins : (x : D) → g.rest x ≡ (d.given x ∷ d.write_faults x ∷ []) ∷ d.rest_after x)
    (cs : List Call) (old mid new : State D) (s t u : Outputs O E) where
  abbrev left : Object
  left = left_by (stated_calls cs) old.o

  module _ (x : Bool) (r : Result Bool Stop) (h : RunsCalls g o e cs (Ok x) old mid s t)
      (k : ChangesLeft g d o e r mid new t u) where
    -- the calls only read the device
    unwritten : IsUnwritten d old.source mid.source
    unwritten = leaves_unwritten g d begins old.source mid.source h.state.source

    both_leave : LeavesDevice g d o e r old.source new.source s u
    both_leave =
        leaves_after g d o e r old.source mid.source new.source s t u unwritten h.state.later
        h.leaves.keeps k.leaves

    -- the update of what they left
    second_done : IsTrue old.told → (file : List ℕ) → g.holds old.source ≡ Some old.o.base
        → DoesInPlace g d o e (changed_outcome file left) file old.o.base r
        mid.source new.source t u
    second_done told file held =
        let base : mid.o.base ≡ old.o.base =
        ap (λ (p : Object). p.base) (h.left told) ∙ left_has_base cs old.o in
        let now : g.holds mid.source ≡ Some mid.o.base =
        h.state.source.same_bytes ∙ held ∙ ap Some (sym base) in
        subst (λ (p : Object). DoesInPlace g d o e (changed_outcome file p) file old.o.base r
        mid.source new.source t u) (h.left told)
        (subst (λ (was : List ℕ). DoesInPlace g d o e (changed_outcome file mid.o) file was r
        mid.source new.source t u) base (k.does file now))

    asked : IsTrue old.told → g.taken new.source ≤ g.taken old.source
        + (homes_due old.o [] (read_by (stated_calls cs) old.o) + update_in_place_due left [])
    asked told =
        let first = (h.reads told).bound in
        let fewer = homes_fall old.o [] old.loaded (read_by (stated_calls cs) old.o)
        (more_than_none old.loaded) in
        let second = k.asks.no_more in
        let less = update_in_place_most mid.o mid.loaded in
        let same : update_in_place_due mid.o [] ≡ update_in_place_due left []
        = ap (λ (p : Object). update_in_place_due p []) (h.left told) in
        omega arith

  pub calls_changed : (x y : Bool) → RunsCalls g o e cs (Ok x) old mid s t
      → ChangesLeft g d o e (Ok y) mid new t u
      → ChangesCalls g d o e cs (Ok (x || y)) old new s u
  unfolding updated_outcome
  calls_changed x y h k = record {
    does = λ told file held.
        changed_before g d o e file old.o.base (calls_report cs old.o)
        (update_report (calls.update_null.answer left))
        (updated_writes (write_by InPlace file (image left)) (calls.update_null.answer left))
        (updated_gives (update_gives InPlace left) (calls.update_null.answer left))
        old.source mid.source new.source s t u (unwritten x (Ok y) h k).given x y (h.lines told)
        (second_done x (Ok y) h k told file held);
    asks = λ told. asked x (Ok y) h k told;
    leaves =
        let both = both_leave x (Ok y) h k in record {
          rest_after = both.rest_after;
          later = both.later;
          write_later = both.write_later;
          keeps = both.keeps;
          read = tt;
          write = tt;
        };
  }

  pub calls_unchanged : (x : Bool) (stop : Stop) → RunsCalls g o e cs (Ok x) old mid s t
      → ChangesLeft g d o e (Err stop) mid new t u
      → ChangesCalls g d o e cs (Err stop) old new s u
  unfolding updated_outcome
  calls_unchanged x stop h k = record {
    does = λ told file held.
        changed_before_stop g d o e file old.o.base (calls_report cs old.o)
        (update_report (calls.update_null.answer left))
        (updated_writes (write_by InPlace file (image left)) (calls.update_null.answer left))
        (updated_gives (update_gives InPlace left) (calls.update_null.answer left))
        old.source mid.source new.source s t u (unwritten x (Err stop) h k).given x stop
        (h.lines told) (second_done x (Err stop) h k told file held);
    asks = λ told. tt;
    leaves = both_leave x (Err stop) h k;
  }

  -- a call stops the run, and nothing is written
  pub calls_unrun : (stop : Stop) → RunsCalls g o e cs (Err stop) old mid s t
      → ChangesCalls g d o e cs (Err stop) old mid s t
  unfolding updated_outcome
  calls_unrun stop h =
      let same = leaves_unwritten g d begins old.source mid.source h.state.source in record {
        does = λ told file held.
            unchanged_before g d o e file old.o.base (calls_report cs old.o)
            (update_report (calls.update_null.answer left))
            (updated_writes (write_by InPlace file (image left)) (calls.update_null.answer left))
            (updated_gives (update_gives InPlace left) (calls.update_null.answer left))
            old.source mid.source mid.source s t t same.given stop
            (h.state.source.same_bytes ∙ held) (h.lines told);
        asks = λ told. tt;
        leaves = outputs_leave g d o e (Err stop) old.source mid.source s t same.rest_after
            h.state.later (let faults = same.faults in omega (arith, faults)) h.leaves;
      }

-- ---- The image of an open file

-- the base of an object that begins is what its source holds
begun_base : {S : Type 0} (g : SourceGhosts S) (src : S) (a : State S) (bytes : List ℕ)
    → IsBegun g src a → g.holds a.source ≡ Some bytes → a.o.base ≡ bytes
unfolding begun_state begun
begun_base {S} g src a bytes is held =
    ap (λ (x : State S). x.o.base) is.state
    ∙ ap (λ (h : Option (List ℕ)). source_bytes h (g.size a.source)) held

module _ {D O E : Type 0} (g : SourceGhosts D) (d : DeviceGhosts D) (o : SinkGhosts O)
    (e : SinkGhosts E)
    (begins : (x : D) → g.rest x ≡ (d.given x ∷ d.write_faults x ∷ []) ∷ d.rest_after x)
    (cs : List Call) (name : List ℕ) (r : Result Bool Stop) (src : D) (s t : Outputs O E) where
  abbrev stated : List ℕ → Outcome
  stated bytes = updated_by InPlace cs name (Some (calls_asks cs bytes)) (file_object bytes)

  -- the calls were run on it
  pub changes_made : (a new : State D) (n : ℕ) → Asks {T = Object} g (Ok a.o) src a.source n
      → IfSome (g.holds src) (λ bytes. Follows (Ok a.o) (file_object bytes))
      → IsBegun g src a → a.told ≡ is_some (g.holds src)
      → IfSome (g.holds src) (λ bytes. g.taken a.source ≤ g.taken src + (8 + front_bytes bytes))
      → ChangesCalls g d o e cs r a new s t
      → ChangesFile g d o e stated name r src new.source s t
  unfolding updated_outcome calls_asks homes_read
  changes_made a new n asks answer is_begun told bound h = record {
    does = by_held (g.holds src) refl answer told bound;
    leaves = leaves_after g d o e r src a.source new.source s s t
        (leaves_unwritten g d begins src a.source asks.leaves) asks.later (keeps_none o e s) h.leaves;
  }
    where
      within : (bytes : List ℕ) (q : Result Bool Stop)
          → g.taken a.source ≤ g.taken src + (8 + front_bytes bytes)
          → OnOk q (g.taken new.source ≤ g.taken a.source
          + (homes_due a.o [] (read_by (stated_calls cs) a.o)
          + update_in_place_due (left_by (stated_calls cs) a.o) []))
          → OnOk q (g.taken new.source ≤ g.taken src
          + (8 + front_bytes bytes + homes_due a.o [] (read_by (stated_calls cs) a.o)
          + update_in_place_due (left_by (stated_calls cs) a.o) []))
      within bytes (Ok x) first k = omega arith
      within bytes (Err stop) first k = tt

      by_held : (held : Option (List ℕ)) → g.holds src ≡ held
          → IfSome held (λ bytes. Follows (Ok a.o) (file_object bytes)) → a.told ≡ is_some held
          → IfSome held (λ bytes. g.taken a.source ≤ g.taken src + (8 + front_bytes bytes))
          → IfSome held (λ bytes. DoesInPlace g d o e (stated bytes) name bytes r
          src new.source s t)
      by_held None holds is told_is first = tt
      by_held (Some bytes) holds is told_is first =
          let held : g.holds a.source ≡ Some bytes = asks.leaves.same_bytes ∙ holds in
          let base : a.o.base ≡ bytes = begun_base g src a bytes is_begun held in
          let given = (leaves_unwritten g d begins src a.source asks.leaves).given in
          let most : ℕ =
          8 + front_bytes bytes + homes_due a.o [] (read_by (stated_calls cs) a.o) in
          rw is (begun_before g d o e name bytes
          (updated_outcome InPlace cs name (Some most) a.o) r src a.source new.source s t given
          (within bytes r first (h.asks told_is))
          (subst (λ (was : List ℕ). DoesInPlace g d o e
          (unbounded (updated_outcome InPlace cs name None a.o)) name was r
          a.source new.source s t) base (h.does told_is name (held ∙ ap Some (sym base)))))

  -- it is none, or an archive
  pub changes_refused : (after : D) (n : ℕ) (c : ElfError) → Asks {T = Object} g (Err c) src after n
      → IfSome (g.holds src) (λ bytes. Follows {T = Object} (Err c) (file_object bytes))
      → IfSome (g.holds src) (λ bytes. g.taken after ≤ g.taken src + (8 + front_bytes bytes))
      → ReportsRefusal o e (codes "calls") (file_name name) c r s t
      → ChangesFile g d o e stated name r src after s t
  unfolding calls_asks
  changes_refused after n c asks answer bound refused = record {
    does = by_held (g.holds src) refl answer bound;
    leaves = outputs_leave g d o e r src after s t same.rest_after asks.later
        (let faults = same.faults in omega (arith, faults))
        (refused_leaves o e Object c r s t (g.faults src) (g.faults after) asks.read refused.leaves
        refused.stops);
  }
    where
      same : IsUnwritten d src after
      same = leaves_unwritten g d begins src after asks.leaves

      always : {P : Type 0} (q : Result Bool Stop) → P → OnOk q P
      always (Ok x) h = h
      always (Err stop) h = tt

      by_error : (v : ElfError) (res : Result Object ElfError) (bytes : List ℕ)
          → g.holds src ≡ Some bytes
          → g.taken after ≤ g.taken src + calls_asks cs bytes → Follows (Err v) res
          → ReportsRefusal o e (codes "calls") (file_name name) v r s t
          → DoesInPlace g d o e (updated_by InPlace cs name (Some (calls_asks cs bytes)) res) name
          bytes r src after s t
      by_error error.Memory res bytes holds within is k =
          rw (k.stops.0, k.stops.1) (unchanged_nothing g d o e name bytes _ Memory src after s
          (asks.leaves.same_bytes ∙ holds) same.given)
      by_error error.Read res bytes holds within is k =
          rw (k.stops.0, k.stops.1) (unchanged_nothing g d o e name bytes _ Read src after s
          (asks.leaves.same_bytes ∙ holds) same.given)
      by_error error.Write res bytes holds within is k =
          rw (k.stops.0, k.stops.1) (unchanged_nothing g d o e name bytes _ Write src after s
          (asks.leaves.same_bytes ∙ holds) same.given)
      by_error v res bytes holds within is k =
          rw is (unchanged_report g d o e name bytes
          (refusal_report (codes "calls") (file_name name) (error_text v))
          (Some (calls_asks cs bytes)) r src after s t (asks.leaves.same_bytes ∙ holds) same.given
          (always r within) k.reports)

      by_held : (held : Option (List ℕ)) → g.holds src ≡ held
          → IfSome held (λ bytes. Follows {T = Object} (Err c) (file_object bytes))
          → IfSome held (λ bytes. g.taken after ≤ g.taken src + (8 + front_bytes bytes))
          → IfSome held (λ bytes. DoesInPlace g d o e (stated bytes) name bytes r src after s t)
      by_held None holds is first = tt
      by_held (Some bytes) holds is first =
          by_error c (file_object bytes) bytes holds (omega (arith, first)) is refused
