-- Steps over a descriptor and the outputs, one after another.
use Rattle.std.proofs.Common.{◌≡◌, ◌||◌, ◌+◌, ◌*◌, ◌≤◌, Bool, false, ℕ, List, None, Result, Ok, Err, IsTrue, IfNone, refl, ap, ◌∙◌, subst, arith}
use Rattle.std.proofs.lemmas.Nat.{mul-le}
use Rattle.elf_types.specs.declared.errors.ElfError.{ElfError}
use Rattle.elf_types.specs.declared.errors.ElfError.TheVariants as error
use Rattle.elf_types.specs.Answers.{IsRefusal}
use Rattle.tool_output.specs.elf_outside.Asks.{ReadRose}
use Rattle.tool_output.specs.elf_outside.declared.sources.Source.{Ghosts as SourceGhosts}
use Rattle.tool_output.specs.elf_outside.declared.sinks.Sink.{Ghosts as SinkGhosts}
use Rattle.gelf_view.specs.elf_object.Object.{Object}
use Rattle.gelf_view.specs.elf_descriptor.State.{State}
use Rattle.tool_output.specs.declared.stops.Stop.{Stop}
use Rattle.tool_output.specs.declared.stops.Stop.TheVariants.{Read, Write, Memory}
use Rattle.tool_output.specs.declared.outputs.Outputs.{Outputs}
use Rattle.tool_output.specs.Reports.{Report, Reports, no_report, shown_report, joined_reports}
use Rattle.tool_output.specs.Steps.{KeepsSinks, LeavesOutputs, OnRead, OnWrite}
use Rattle.tool_output.specs.Stops.{stop_of}
use Rattle.tool_output.proofs.StepLemmas.{keeps_none, keeps_then}
use Rattle.tool_output.proofs.SourceLemmas.{reads_weaker, refused_reports, refused_leaves, Stops}
use Rattle.tool_output.proofs.ReportLemmas.{reports_none, reports_then, reports_then_stop, reports_stop, reports_nothing, shown_then}
use Rattle.tool_output.proofs.UnderWayLemmas.{begins, goes_on, stops_at, is_given}
use Rattle.tool_objects.specs.Steps.{LeavesElfOver, LeavesElfBy, LeavesElf, WentOn, homes_left, asked_again, ReadsElf, ReportsOver, ReportsElf, Learns, ElfOver, ElfUnderWay, SourceRose}
use Rattle.tool_objects.proofs.SourceSteps.{leaves_then, left_after}

-- passes over one object add up
passes_both : (m n again : ℕ) → (m + n) * again ≡ m * again + n * again
passes_both m n again = omega arith

module _ {S : Type 0} (s : SourceGhosts S) where
  -- where less is said of when it went well
  pub left_as : {n : ℕ} (P Q : Type 0) (a b : State S) → (Q → P) → LeavesElfOver s n P a b
      → LeavesElfOver s n Q a b
  left_as P Q a b when h = record {
    object = h.object;
    told = h.told;
    source = h.source;
    later = h.later;
    asked = λ well. h.asked (when well);
  }

  -- it went well
  pub settled_elf : {n : ℕ} (P : Type 0) (a b : State S) → P → LeavesElfOver s n P a b
      → LeavesElfOver s n (Unit {0}) a b
  settled_elf P a b well h = left_as P (Unit {0}) a b (λ w. well) h

  -- it may make more passes
  pub left_over : {P : Type 0} (m n : ℕ) (a b : State S) → m ≤ n → LeavesElfOver s m P a b
      → LeavesElfOver s n P a b
  left_over m n a b le h = record {
    object = h.object;
    told = h.told;
    source = h.source;
    later = h.later;
    asked = λ well. more_asked (asked_again a.o) _ _ (h.asked well);
  }
    where
      more_asked : (again x y : ℕ) → x ≤ y + m * again → x ≤ y + n * again
      more_asked again x y h =
          let more = mul-le m again n again le (omega arith) in
          omega (arith, h, more)

  -- it did not go well
  pub left_failed : {m n : ℕ} (a b : State S) → LeavesElfOver s m ⊥ a b → LeavesElfOver s n ⊥ a b
  left_failed a b h = record {
    object = h.object;
    told = h.told;
    source = h.source;
    later = h.later;
    asked = λ never. absurd never;
  }

  -- nothing is done
  pub elf_left : (a : State S) → LeavesElf s a a
  elf_left a = record {
    object = refl;
    told = refl;
    source = record { same_len = refl; same_bytes = refl; same_rest = refl };
    later = omega arith;
    asked = λ well. omega arith;
  }

  pub elf_left_then : {m n : ℕ} {P : Type 0} (a b c : State S) → LeavesElfOver s m (Unit {0}) a b
      → LeavesElfOver s n P b c → LeavesElfOver s (m + n) P a c
  elf_left_then {m} {n} a b c h k = record {
    object = k.object ∙ h.object;
    told = k.told ∙ h.told;
    source = leaves_then s a.source b.source c.source h.source k.source;
    later = omega (arith, h.later, k.later);
    asked = λ well. asked_then (s.taken a.source) (s.taken b.source) (s.taken c.source)
        (homes_left a) (homes_left b) (homes_left c) (asked_again a.o) (asked_again b.o)
        (ap asked_again h.object) (h.asked tt) (k.asked well);
  }
    where
      asked_then : (x y z l k i again other : ℕ) → other ≡ again → y + k ≤ x + l + m * again
          → z + i ≤ y + k + n * other → z + i ≤ x + l + (m + n) * again
      asked_then x y z l k i again other same h after =
          let both = passes_both m n again in
          let less = ap (λ (q : ℕ). n * q) same in
          omega (arith, h, after, both, less)

  -- behind a step that lets go of nothing
  pub elf_left_next : {n : ℕ} {P : Type 0} (a b c : State S) → LeavesElf s a b
      → LeavesElfOver s n P b c → LeavesElfOver s n P a c
  elf_left_next {n} a b c h k = left_over (0 + n) n a c (omega arith) (elf_left_then a b c h k)

  pub still_told : {n : ℕ} {P : Type 0} (a b : State S) → LeavesElfOver s n P a b → IsTrue a.told
      → IsTrue b.told
  still_told a b h is = rw h.told is

module _ {S O E : Type 0} (s : SourceGhosts S) (o : SinkGhosts O) (e : SinkGhosts E) where
  -- ---- What is left of the outputs

  -- a step that answers, after others
  outputs_after : {n : ℕ} (r : Result Bool Stop) (a b c : State S) (t u v : Outputs O E) → LeavesElfOver s n (Unit {0}) a b → KeepsSinks o e t u
      → LeavesOutputs o e (SourceRose s b c) r u v → LeavesOutputs o e (SourceRose s a c) r t v
  outputs_after r a b c t u v h k l = left_after o e r (s.faults a.source) (s.faults b.source) (s.faults c.source) t u v h.later k l

  -- ---- A report

  -- what is written after a call that leaves the object
  pub elf_says : (report : Object → Report) (r : Result Bool Stop) (a b : State S) (t u : Outputs O E) → LeavesElf s a b
      → (IsTrue a.told → Reports o e r t u (report a.o)) → LeavesOutputs o e ⊥ r t u → ReportsElf s o e report r a b t u
  elf_says report r a b t u h k l = record {
    reports = k;
    elf = left_as s (Unit {0}) (WentOn r) a b (λ well. tt) h;
    leaves = reads_weaker o e (SourceRose s a b) r t u l;
  }

  -- a step that says nothing
  pub elf_says_none : (report : Object → Report) (a b : State S) (t : Outputs O E) → LeavesElf s a b → (IsTrue a.told → report a.o ≡ no_report)
      → ReportsElf s o e report (Ok false) a b t t
  elf_says_none report a b t h none = record {
    reports = λ told. rw (none told) (reports_none o e t);
    elf = h;
    leaves = record { keeps = keeps_none o e t; read = tt; write = tt };
  }

  -- the same report, stated otherwise
  pub elf_as : {n : ℕ} (p q : Object → Report) (r : Result Bool Stop) (a b : State S) (t u : Outputs O E) → (IsTrue a.told → q a.o ≡ p a.o)
      → ReportsOver s o e n p r a b t u → ReportsOver s o e n q r a b t u
  elf_as p q r a b t u same h = record {
    reports = λ told. rw (same told) (h.reports told);
    elf = h.elf;
    leaves = h.leaves;
  }

  -- by more passes
  pub elf_over : (m n : ℕ) (report : Object → Report) (r : Result Bool Stop) (a b : State S)
      (t u : Outputs O E) → m ≤ n → ReportsOver s o e m report r a b t u
      → ReportsOver s o e n report r a b t u
  elf_over m n report r a b t u le h = record {
    reports = h.reports;
    elf = left_over s m n a b le h.elf;
    leaves = h.leaves;
  }

  -- one that stopped, by any number of them
  pub elf_failed : {m n : ℕ} (report : Object → Report) (stop : Stop) (a b : State S)
      (t u : Outputs O E) → ReportsOver s o e m report (Err stop) a b t u
      → ReportsOver s o e n report (Err stop) a b t u
  elf_failed report stop a b t u h = record {
    reports = h.reports;
    elf = left_failed s a b h.elf;
    leaves = h.leaves;
  }

  module _ (p q : Object → Report) (a b c : State S) (t u v : Outputs O E) where
    later_report : {n : ℕ} (r : Result Bool Stop) → LeavesElfOver s n (Unit {0}) a b → (IsTrue b.told → Reports o e r u v (q b.o)) → IsTrue a.told → Reports o e r u v (q a.o)
    later_report r h k told = subst (λ (x : Object). Reports o e r u v (q x)) h.object (k (still_told s a b h told))

    -- two reports
    pub elf_then : {m n : ℕ} (x y z : Bool) → z ≡ (x || y) → ReportsOver s o e m p (Ok x) a b t u → ReportsOver s o e n q (Ok y) b c u v
        → ReportsOver s o e (m + n) (λ m. joined_reports (p m) (q m)) (Ok z) a c t v
    elf_then x y z is h k = record {
      reports = λ told. reports_then o e t u v (p a.o) (q a.o) x y z is (h.reports told) (later_report (Ok y) h.elf k.reports told);
      elf = elf_left_then s a b c h.elf k.elf;
      leaves = record { keeps = keeps_then o e t u v h.leaves.keeps k.leaves.keeps; read = tt; write = tt };
    }

    -- the second of two stops
    pub elf_then_stop : {m n : ℕ} (x : Bool) (stop : Stop) → ReportsOver s o e m p (Ok x) a b t u → ReportsOver s o e n q (Err stop) b c u v
        → ReportsOver s o e (m + n) (λ m. joined_reports (p m) (q m)) (Err stop) a c t v
    elf_then_stop x stop h k = record {
      reports = λ told. reports_then_stop o e t u v (p a.o) (q a.o) x stop (h.reports told) (later_report (Err stop) h.elf k.reports told);
      elf = elf_left_then s a b c h.elf k.elf;
      leaves = outputs_after (Err stop) a b c t u v h.elf h.leaves.keeps k.leaves;
    }

  -- a text on standard output, and then a report
  pub elf_shown_then : {n : ℕ} (text : Object → List ℕ) (q : Object → Report) (r : Result Bool Stop) (x : Bool) (a b c : State S) (t u v : Outputs O E)
      → ReportsElf s o e (λ m. shown_report (text m)) (Ok x) a b t u → ReportsOver s o e n q r b c u v → ReportsOver s o e n (λ m. joined_reports (shown_report (text m)) (q m)) r a c t v
  elf_shown_then text q r x a b c t u v h k = record {
    reports = λ told. shown_then o e r t u v (text a.o) x (q a.o) (h.reports told)
        (subst (λ (m : Object). Reports o e r u v (q m)) h.elf.object (k.reports (still_told s a b h.elf told)));
    elf = elf_left_next s a b c h.elf k.elf;
    leaves = outputs_after r a b c t u v h.elf h.leaves.keeps k.leaves;
  }

  -- the first of two stops
  pub elf_stop : {n : ℕ} (p q : Object → Report) (a b : State S) (t u : Outputs O E) (stop : Stop) → ReportsOver s o e n p (Err stop) a b t u
      → ReportsOver s o e n (λ m. joined_reports (p m) (q m)) (Err stop) a b t u
  elf_stop p q a b t u stop h = record {
    reports = λ told. reports_stop o e t u (p a.o) (q a.o) stop (h.reports told);
    elf = h.elf;
    leaves = h.leaves;
  }

  went_refused : (d : ElfError) (r : Result Bool Stop) (t u : Outputs O E) → Stops o e r t u d
      → WentOn r → IsRefusal d
  went_refused error.Memory r t u stops went =
      absurd (subst (λ (q : Result Bool Stop). WentOn q) stops.0 went)
  went_refused error.Read r t u stops went =
      absurd (subst (λ (q : Result Bool Stop). WentOn q) stops.0 went)
  went_refused error.Write r t u stops went =
      absurd (subst (λ (q : Result Bool Stop). WentOn q) stops.0 went)
  went_refused d r t u stops went = tt

  -- a call answered an error, which refuses what is spoken of or stops the step
  pub elf_refuses : (report : Object → Report) (T : Type 0) (d : ElfError) (refused : Report) (r : Result Bool Stop) (a b : State S) (t u : Outputs O E)
      → LeavesElfBy s (IsRefusal d) a b → ReadRose {T = T} (Err d) (s.faults a.source) (s.faults b.source) → (IsTrue a.told → stop_of d ≡ None → report a.o ≡ refused)
      → IfNone (stop_of d) (Reports o e r t u refused) → Stops o e r t u d → IfNone (stop_of d) (LeavesOutputs o e ⊥ r t u)
      → ReportsElf s o e report r a b t u
  elf_refuses report T d refused r a b t u h rose same k stops l = record {
    reports = λ told. refused_reports o e T d r t u (s.faults a.source) (s.faults b.source) (report a.o) refused rose (same told) k stops;
    elf = left_as s (IsRefusal d) (WentOn r) a b (went_refused d r t u stops) h;
    leaves = refused_leaves o e T d r t u (s.faults a.source) (s.faults b.source) rose l stops;
  }

  -- ---- A value, and then a report

  -- a step that stops before there is a value
  pub elf_unread : (T : Type 0) (stop : Stop) (report : Object → Report) (a b : State S) (t : Outputs O E) → ReadsElf {T = T} s (Err stop) a b
      → ReportsElf s o e report (Err stop) a b t t
  elf_unread T stop report a b t h = record {
    reports = λ told. reports_nothing o e t stop (report a.o);
    elf = h.elf;
    leaves = by_stop stop h.read h.write;
  }
    where
      by_stop : (stop : Stop) → OnRead {T = T} (Err stop) (SourceRose s a b) → OnWrite {T = T} (Err stop) ⊥
          → LeavesOutputs {T = Bool} o e (SourceRose s a b) (Err stop) t t
      by_stop Read read write = record { keeps = keeps_none o e t; read = read; write = tt }
      by_stop Memory read write = record { keeps = keeps_none o e t; read = tt; write = tt }
      by_stop Write read write = absurd write

  module _ {T : Type 0} (stated : Object → T) (a b : State S) where
    -- the report that the value decides
    pub elf_learns : {n : ℕ} (v : T) (report : T → Object → Report) (r : Result Bool Stop) (c : State S) (t u : Outputs O E)
        → Learns s stated (Ok v) a b → ReportsOver s o e n (report v) r b c t u → ReportsOver s o e n (λ m. report (stated m) m) r a c t u
    elf_learns v report r c t u h k = record {
      reports = λ told.
          subst (λ (x : T). Reports o e r t u (report x a.o)) (h.value told)
          (subst (λ (x : Object). Reports o e r t u (report v x)) h.reads.elf.object (k.reports (still_told s a b h.reads.elf told)));
      elf = elf_left_next s a b c h.reads.elf k.elf;
      leaves = outputs_after r a b c t t u h.reads.elf (keeps_none o e t) k.leaves;
    }

    -- or there is none
    pub elf_learns_none : (stop : Stop) (report : Object → Report) (t : Outputs O E) → Learns {T = T} s stated (Err stop) a b
        → ReportsElf s o e report (Err stop) a b t t
    elf_learns_none stop report t h = elf_unread T stop report a b t h.reads

-- ---- A report that is given in steps

-- nothing is given yet, and the whole is left
pub elf_begins : {S O E : Type 0} (s : SourceGhosts S) (o : SinkGhosts O) (e : SinkGhosts E) (a : State S) (t : Outputs O E) (whole : Object → Report)
    → ElfUnderWay s o e false a a t t whole whole
elf_begins s o e a t whole = record { report = λ told. begins o e t (whole a.o); elf = elf_left s a; keeps = keeps_none o e t }

module _ {S O E : Type 0} {s : SourceGhosts S} {o : SinkGhosts O} {e : SinkGhosts E} {m : ℕ} {x : Bool} {a b : State S} {t u : Outputs O E}
    {whole rest : Object → Report} (h : ElfOver s o e m x a b t u whole rest) where
  of_first : {n : ℕ} (c : State S) (r : Result Bool Stop) (v : Outputs O E) (next : Object → Report) → ReportsOver s o e n next r b c u v → IsTrue a.told → Reports o e r u v (next a.o)
  of_first c r v next k told = subst (λ (m : Object). Reports o e r u v (next m)) h.elf.object (k.reports (still_told s a b h.elf told))

  -- the next of what is left is given
  pub elf_goes_on : {n : ℕ} {c : State S} {v : Outputs O E} {y z : Bool} (next left : Object → Report) → (IsTrue a.told → rest a.o ≡ joined_reports (next a.o) (left a.o))
      → ReportsOver s o e n next (Ok y) b c u v → z ≡ (x || y) → ElfOver s o e (m + n) z a c t v whole left
  elf_goes_on {n} {c} {v} {y} {z} next left is k or = record {
    report = λ told. goes_on (h.report told) (next a.o) (left a.o) (is told) (of_first c (Ok y) v next k told) or;
    elf = elf_left_then s a b c h.elf k.elf;
    keeps = keeps_then o e t u v h.keeps k.leaves.keeps;
  }

  -- or the step stops on the way
  pub elf_stops_at : {n : ℕ} {c : State S} {v : Outputs O E} {stop : Stop} (next left : Object → Report) → (IsTrue a.told → rest a.o ≡ joined_reports (next a.o) (left a.o))
      → ReportsOver s o e n next (Err stop) b c u v → ReportsOver s o e (m + n) whole (Err stop) a c t v
  elf_stops_at {n} {c} {v} {stop} next left is k = record {
    reports = λ told. stops_at (h.report told) (next a.o) (left a.o) (is told) (of_first c (Err stop) v next k told);
    elf = elf_left_then s a b c h.elf k.elf;
    leaves = outputs_after s o e (Err stop) a b c t u v h.elf h.keeps k.leaves;
  }

  -- by more passes
  pub over_more : (n : ℕ) → m ≤ n → ElfOver s o e n x a b t u whole rest
  over_more n le =
      record { report = h.report; elf = left_over s m n a b le h.elf; keeps = h.keeps }

  -- nothing is left
  pub elf_is_given : (IsTrue a.told → rest a.o ≡ no_report) → ReportsOver s o e m whole (Ok x) a b t u
  elf_is_given none = record {
    reports = λ told. is_given (h.report told) (none told);
    elf = h.elf;
    leaves = record { keeps = h.keeps; read = tt; write = tt };
  }

-- a call that reads, and then a report
pub elf_after : {S O E : Type 0} {n : ℕ} (s : SourceGhosts S) (o : SinkGhosts O) (e : SinkGhosts E) (p q : Object → Report) (r : Result Bool Stop) (a b c : State S) (t u : Outputs O E)
    → LeavesElf s a b → ReportsOver s o e n p r b c t u → (IsTrue a.told → q a.o ≡ p a.o) → ReportsOver s o e n q r a c t u
elf_after s o e p q r a b c t u h k same =
    elf_as s o e p q r a c t u same
    (elf_learns s o e {T = Unit {0}} (λ m. tt) a b tt (λ v. p) r c t u (record { value = λ told. refl; reads = record { elf = h; read = tt; write = tt } }) k)
