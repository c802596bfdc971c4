-- Steps over a source and the outputs, one after another.
use Rattle.std.proofs.Common.{◌≡◌, inl, inr, ◌||◌, ◌≤◌, ℕ, Bool, false, List, Option, Some, None, Result, Ok, Err, IfSome, refl, sym, ◌∙◌, arith}
use Rattle.elf_types.specs.declared.errors.ElfError.{ElfError}
use Rattle.tool_output.specs.elf_outside.Asks.{Asks, Leaves}
use Rattle.tool_output.specs.elf_outside.Counts.{Rose}
use Rattle.tool_output.specs.elf_outside.declared.sources.Source.{Ghosts as SourceGhosts}
use Rattle.tool_output.specs.elf_outside.declared.sinks.Sink.{Ghosts as SinkGhosts}
use Rattle.ar_members.proofs.Told.{told_by, told_both, told_as}
use Rattle.tool_output.specs.declared.stops.Stop.{Stop}
use Rattle.tool_output.specs.declared.stops.Stop.TheVariants.{Read, Write, Memory}
use Rattle.tool_output.specs.declared.outputs.Outputs.{Outputs}
use Rattle.tool_output.specs.Steps.{KeepsSinks, LeavesOutputs, SinkRose}
use Rattle.tool_output.specs.Reports.{Report, Reports, no_report, joined_reports, UnderWay}
use Rattle.tool_output.specs.Sources.{ReportsOn}
use Rattle.tool_output.proofs.StepLemmas.{keeps_none, keeps_then}
use Rattle.tool_output.proofs.ReportLemmas.{joined_no_report}
use Rattle.tool_output.proofs.UnderWayLemmas.{begins, goes_on, stops_at, is_given}
use Rattle.tool_objects.specs.Refusals.{IsJoined}

-- ---- What is left

pub leaves_then : {S : Type 0} (s : SourceGhosts S) (a b c : S) → Leaves s a b → Leaves s b c → Leaves s a c
leaves_then s a b c h k = record {
  same_len = k.same_len ∙ h.same_len;
  same_bytes = k.same_bytes ∙ h.same_bytes;
  same_rest = k.same_rest ∙ h.same_rest;
}

-- a read that failed in a later step
pub rose_from_first : {O E : Type 0} (o : SinkGhosts O) (e : SinkGhosts E) (r : Result Bool Stop) (a b c : ℕ) (t u : Outputs O E) → a ≤ b
    → LeavesOutputs o e (Rose b c) r t u → LeavesOutputs o e (Rose a c) r t u
rose_from_first o e (Ok x) a b c t u later h = record { keeps = h.keeps; read = tt; write = tt }
rose_from_first o e (Err Read) a b c t u later h = let rose = h.read in record { keeps = h.keeps; read = omega (arith, later, rose); write = tt }
rose_from_first o e (Err Write) a b c t u later h = record { keeps = h.keeps; read = tt; write = h.write }
rose_from_first o e (Err Memory) a b c t u later h = record { keeps = h.keeps; read = tt; write = tt }

-- a put that failed in a later step
sink_rose_later : {O E : Type 0} (o : SinkGhosts O) (e : SinkGhosts E) (t u v : Outputs O E) → KeepsSinks o e t u
    → SinkRose o e u.out.now v.out.now u.err.now v.err.now → SinkRose o e t.out.now v.out.now t.err.now v.err.now
sink_rose_later o e t u v k (inl rose) = inl (let p = k.leaves.out_later in omega (arith, p, rose))
sink_rose_later o e t u v k (inr rose) = inr (let p = k.leaves.err_later in omega (arith, p, rose))

-- what a step leaves after others
pub left_after : {O E : Type 0} (o : SinkGhosts O) (e : SinkGhosts E) (r : Result Bool Stop) (a b c : ℕ) (t u v : Outputs O E) → a ≤ b → KeepsSinks o e t u
    → LeavesOutputs o e (Rose b c) r u v → LeavesOutputs o e (Rose a c) r t v
left_after o e (Ok x) a b c t u v later k l = record { keeps = keeps_then o e t u v k l.keeps; read = tt; write = tt }
left_after o e (Err Read) a b c t u v later k l = let rose = l.read in record { keeps = keeps_then o e t u v k l.keeps; read = omega (arith, later, rose); write = tt }
left_after o e (Err Write) a b c t u v later k l = record { keeps = keeps_then o e t u v k l.keeps; read = tt; write = sink_rose_later o e t u v k l.write }
left_after o e (Err Memory) a b c t u v later k l = record { keeps = keeps_then o e t u v k l.keeps; read = tt; write = tt }

-- ---- A report

module _ {S O E : Type 0} (s : SourceGhosts S) (o : SinkGhosts O) (e : SinkGhosts E) where
  -- after a call that reads, whose answer says which report it is
  pub after_call : {T : Type 0} (q : Result T ElfError) (n : ℕ) (whole next : List ℕ → Report) (r : Result Bool Stop) (a b c : S) (t u : Outputs O E)
      → Asks s q a b n → IfSome (s.holds a) (λ bytes. whole bytes ≡ next bytes) → ReportsOn s o e next r b c t u → ReportsOn s o e whole r a c t u
  after_call q n whole next r a b c t u asks is h =
      let p = asks.later in
      let k = h.later in record {
        reports = told_both (λ bytes. whole bytes ≡ next bytes) (λ bytes. Reports o e r t u (next bytes)) (s.holds a) is
            (told_as (λ bytes. Reports o e r t u (next bytes)) _ _ asks.leaves.same_bytes h.reports)
            (λ bytes same given. rw same given);
        source = leaves_then s a b c asks.leaves h.source;
        later = omega (arith, p, k);
        leaves = rose_from_first o e r (s.faults a) (s.faults b) (s.faults c) t u asks.later h.leaves;
      }

  -- after a call that reads
  pub after_read : {T : Type 0} (q : Result T ElfError) (n : ℕ) (report : List ℕ → Report) (r : Result Bool Stop) (a b c : S) (t u : Outputs O E)
      → Asks s q a b n → ReportsOn s o e report r b c t u → ReportsOn s o e report r a c t u
  after_read q n report r a b c t u asks h = after_call q n report report r a b c t u asks (told_by (s.holds a) (λ bytes there. refl)) h

-- ---- A report that is given in steps

-- of a report on the bytes all but the rest was given, with `refused` as the answer so far: what is
-- true of a walk over the members of an archive
pub record OnWay {S O E : Type 0} (s : SourceGhosts S) (o : SinkGhosts O) (e : SinkGhosts E) (refused : Bool) (first now : S) (old new : Outputs O E)
    (whole rest : List ℕ → Report) : Type 0 where
  pub report : IfSome (s.holds first) (λ bytes. UnderWay o e refused old new (whole bytes) (rest bytes))
  pub source : Leaves s first now
  pub later : s.faults first ≤ s.faults now
  pub keeps : KeepsSinks o e old new

-- nothing is given yet, and the whole is left
pub way_begins : {S O E : Type 0} (s : SourceGhosts S) (o : SinkGhosts O) (e : SinkGhosts E) (a : S) (t : Outputs O E) (whole : List ℕ → Report)
    → OnWay s o e false a a t t whole whole
way_begins s o e a t whole = record {
  report = told_begins (s.holds a);
  source = record { same_len = refl; same_bytes = refl; same_rest = refl };
  later = omega arith;
  keeps = keeps_none o e t;
}
  where
    told_begins : (holds : Option (List ℕ)) → IfSome holds (λ bytes. UnderWay o e false t t (whole bytes) (whole bytes))
    told_begins None = tt
    told_begins (Some bytes) = begins o e t (whole bytes)

module _ {S O E : Type 0} {s : SourceGhosts S} {o : SinkGhosts O} {e : SinkGhosts E} {x : Bool} {a b : S} {t u : Outputs O E}
    {whole rest : List ℕ → Report} (h : OnWay s o e x a b t u whole rest) where
  -- what follows of the bytes from a step, and from what it says of the rest
  each : {P : List ℕ → Type 0} (Q R : List ℕ → Type 0) → IfSome (s.holds b) Q → IfSome (s.holds b) R
      → ((bytes : List ℕ) → UnderWay o e x t u (whole bytes) (rest bytes) → Q bytes → R bytes → P bytes) → IfSome (s.holds a) P
  each Q R q r of_bytes =
      told_both (λ bytes. UnderWay o e x t u (whole bytes) (rest bytes)) (λ bytes. Q bytes × R bytes) (s.holds a) h.report
      (told_both Q R (s.holds a) (told_as Q _ _ h.source.same_bytes q) (told_as R _ _ h.source.same_bytes r) (λ bytes q r. (q, r)))
      (λ bytes way both. of_bytes bytes way both.0 both.1)

  module _ (next left : List ℕ → Report) {c : S} {v : Outputs O E} (is : IfSome (s.holds b) (λ bytes. rest bytes ≡ joined_reports (next bytes) (left bytes))) where
    -- the next of what is left is given
    pub way_goes_on : {y z : Bool} → ReportsOn s o e next (Ok y) b c u v → z ≡ (x || y) → OnWay s o e z a c t v whole left
    way_goes_on {y} {z} k or =
        let p = h.later in
        let q = k.later in record {
          report = each (λ bytes. rest bytes ≡ joined_reports (next bytes) (left bytes)) (λ bytes. Reports o e (Ok y) u v (next bytes)) is k.reports
              (λ bytes way is given. goes_on way (next bytes) (left bytes) is given or);
          source = leaves_then s a b c h.source k.source;
          later = omega (arith, p, q);
          keeps = keeps_then o e t u v h.keeps k.leaves.keeps;
        }

    -- or the step stops on the way
    pub way_stops_at : {stop : Stop} → ReportsOn s o e next (Err stop) b c u v → ReportsOn s o e whole (Err stop) a c t v
    way_stops_at {stop} k =
        let p = h.later in
        let q = k.later in record {
          reports = each (λ bytes. rest bytes ≡ joined_reports (next bytes) (left bytes)) (λ bytes. Reports o e (Err stop) u v (next bytes)) is k.reports
              (λ bytes way is given. stops_at way (next bytes) (left bytes) is given);
          source = leaves_then s a b c h.source k.source;
          later = omega (arith, p, q);
          leaves = left_after o e (Err stop) (s.faults a) (s.faults b) (s.faults c) t u v h.later h.keeps k.leaves;
        }

  -- what is left is all of it
  pub way_last : {c : S} {v : Outputs O E} {y : Bool} → ReportsOn s o e rest (Ok y) b c u v → ReportsOn s o e whole (Ok (x || y)) a c t v
  way_last {c} {v} {y} k =
      let p = h.later in
      let q = k.later in record {
        reports = each (λ bytes. Reports o e (Ok y) u v (rest bytes)) (λ bytes. Reports o e (Ok y) u v (rest bytes)) k.reports k.reports
            (λ bytes way given same. is_given (goes_on way (rest bytes) no_report (sym (joined_no_report (rest bytes))) given refl) refl);
        source = leaves_then s a b c h.source k.source;
        later = omega (arith, p, q);
        leaves = left_after o e (Ok (x || y)) (s.faults a) (s.faults b) (s.faults c) t u v h.later h.keeps (record { keeps = k.leaves.keeps; read = tt; write = tt });
      }

  pub way_last_stop : {c : S} {v : Outputs O E} {stop : Stop} → ReportsOn s o e rest (Err stop) b c u v → ReportsOn s o e whole (Err stop) a c t v
  way_last_stop {c} {v} {stop} k =
      way_stops_at rest (λ bytes. no_report) (told_by (s.holds b) (λ bytes there. sym (joined_no_report (rest bytes)))) k

  -- and either way
  pub way_last_by : {c : S} {v : Outputs O E} (own r : Result Bool Stop) → IsJoined x own r
      → ReportsOn s o e rest own b c u v → ReportsOn s o e whole r a c t v
  way_last_by (Ok y) r is k = rw is (way_last k)
  way_last_by (Err stop) r is k = rw is (way_last_stop k)

  -- nothing is left, after a call that reads
  pub way_ends : {T : Type 0} (q : Result T ElfError) (n : ℕ) (c : S) → Asks s q b c n → IfSome (s.holds b) (λ bytes. rest bytes ≡ no_report)
      → ReportsOn s o e whole (Ok x) a c t u
  way_ends q n c asks none =
      let p = h.later in
      let r = asks.later in record {
        reports = each (λ bytes. rest bytes ≡ no_report) (λ bytes. rest bytes ≡ no_report) none none (λ bytes way none same. is_given way none);
        source = leaves_then s a b c h.source asks.leaves;
        later = omega (arith, p, r);
        leaves = record { keeps = h.keeps; read = tt; write = tt };
      }
