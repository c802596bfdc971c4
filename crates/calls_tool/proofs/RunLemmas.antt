-- The calls of a script, run one after another.
use Rattle.std.proofs.Common.{◌≡◌, ◌⊎◌, inl, inr, ◌||◌, ℕ, ◌+◌, ◌<◌, ◌≤◌, Bool, true, false, List, [], ◌∷◌, ◌++◌, length, get_or, take, drop, Option, Some, None, Result, Ok, Err, IsTrue, refl, sym, ap, ◌∙◌, subst, arith}
use Rattle.std.specs.Prelude.{OnOk, OnErr, IfErr}
use Rattle.std.proofs.lemmas.List.{at_drop_more, at_drop_all, take_more, take_all}
use Rattle.elf_types.specs.declared.errors.ElfError.{ElfError}
use Rattle.elf_types.specs.declared.errors.ElfError.TheVariants.{Memory, Read, Write}
use Rattle.elf_types.specs.Answers.{IsRefusal}
use Rattle.elf_outside.specs.Asks.{ReadRose}
use Rattle.elf_outside.specs.declared.sources.Source.{Ghosts as SourceGhosts}
use Rattle.elf_outside.specs.declared.sinks.Sink.{Ghosts as SinkGhosts}
use Rattle.symbol_lookup.specs.elf_object.Object.{Object}
use Rattle.symbol_lookup.specs.elf_object.Calls as calls
use Rattle.symbol_lookup.specs.elf_object.Calls.{step}
use Rattle.symbol_lookup.specs.elf_object.Words.{Refusals, AnswersRead}
use Rattle.symbol_lookup.specs.elf_object.Runs.{answers_to, left_by}
use Rattle.symbol_lookup.proofs.elf_object.PassedLaws.{step_ok, step_err}
use Rattle.symbol_lookup.specs.elf_descriptor.State.{State}
use Rattle.tool_output.specs.declared.stops.Stop.{Stop}
use Rattle.tool_output.specs.declared.stops.Stop.TheVariants as stops
use Rattle.tool_output.specs.declared.outputs.Outputs.{Outputs}
use Rattle.tool_output.specs.Stops.{stop_of}
use Rattle.tool_output.specs.Reports.{Reports, UnderWay, no_report, joined_reports, all_reports_joined, reports_of}
use Rattle.tool_output.specs.Steps.{KeepsSinks, LeavesOutputs}
use Rattle.tool_output.proofs.StepLemmas.{keeps_none, keeps_then}
use Rattle.tool_output.proofs.SourceLemmas.{reads_weaker}
use Rattle.tool_output.proofs.ReportLemmas.{reports_nothing}
use Rattle.tool_output.proofs.UnderWayLemmas.{begins, goes_on, stops_at, is_given}
use Rattle.tool_objects.specs.Steps.{SourceRose}
use Rattle.tool_objects.proofs.SourceSteps.{left_after}
use Rattle.elf_calls_script.specs.declared.calls.Call.{Call}
use Rattle.elf_calls_apply.specs.declared.answers.Answer.{Answer}
use Rattle.elf_calls_apply.specs.Stated.{stated_call}
use Rattle.elf_calls_apply.specs.Applies.{Meets, LeavesObject, at_any_step}
use Rattle.calls_tool.specs.Reads.{read_by, LeavesState, ReadsDueHomes}
use Rattle.calls_tool.specs.Runs.{stated_calls, answer_report, calls_report, stop_in, ShowsAnswer, RunsCall, IsLeftByFirstCalls, RunsCalls}
use Rattle.tool_objects.proofs.OnceSums.{has}
use Rattle.calls_tool.proofs.HomeSteps.{KeepsHomes, homes_same, homes_then}
use Rattle.calls_tool.proofs.StatedSteps.{stated_keeps, stated_once}
use Rattle.calls_tool.proofs.ReadLemmas.{next_reads, rest_reads, state_none, state_then, reads_none, reads_more, reads_stop}

-- ---- One call

-- an answer that stops nothing is the stated one, where the source tells its bytes
answer_is : (refusals : Refusals) (w stated : Result Answer ElfError) → stop_in w ≡ None → AnswersRead true at_any_step refusals w stated → stated ≡ w
answer_is refusals (Ok x) stated none came = came.1 refl
answer_is refusals (Err Memory) stated none came = cc
answer_is refusals (Err Read) stated none came = cc
answer_is refusals (Err Write) stated none came = cc
answer_is refusals (Err e) stated none (inl came) = came.1
answer_is refusals (Err e) stated none (inr came) = came.2 refl

settled : (w : Result Answer ElfError) → stop_in w ≡ None → IfErr w IsRefusal
settled (Ok x) none = tt
settled (Err Memory) none = cc
settled (Err Read) none = cc
settled (Err Write) none = cc
settled (Err e) none = tt

-- the object is then the stepped one
step_is : (c : calls.Call Answer) (changed : Option _) (w : Result Answer ElfError) (old new : Object) → c.answer old ≡ w → LeavesObject true c changed w old new → new ≡ step c old
step_is c changed (Err e) old new is left = left ∙ sym (step_err c old e is)
step_is c None (Ok x) old new is left = left ∙ sym (step_ok c old x is)
step_is c (Some d) (Ok x) old new is left = left.0 refl ∙ sym (step_ok c old x is)

or_true : (b : Bool) → (b || true) ≡ true
or_true true = refl
or_true false = refl

told_exact : (b told : Bool) → IsTrue told → (b || told) ≡ true
told_exact b told is = ap (λ t. b || t) is ∙ or_true b

-- a result of writing is Ok or a stop; either stays as it is under what the call did
on_either : {P Q : Type 0} (r : Result Bool Stop) → P → (P → Q) → OnErr r Q
on_either (Ok x) p q = tt
on_either (Err stop) p q = q p

on_ok : {P : Type 0} (r : Result Bool Stop) → P → OnOk r P
on_ok (Ok x) p = p
on_ok (Err stop) p = tt

module _ {S O E : Type 0} (s : SourceGhosts S) (o : SinkGhosts O) (e : SinkGhosts E) (c : calls.Call Answer) (refusals : Refusals) (shows : Bool) (changed : Option _)
    (holding : List ℕ) (old new : State S) (t u : Outputs O E) where
  state_after : (w : Result Answer ElfError) → Meets s c refusals (shows || old.told) changed holding w old new → LeavesState s old new
  state_after w meets = record {
    told = meets.reads.told;
    source = meets.reads.source.leaves;
    later = meets.reads.source.later;
    stays = meets.reads.stays;
  }

  reads_after : (w : Result Answer ElfError) (r : Result Bool Stop) → OnOk r (IfErr w IsRefusal) → Meets s c refusals (shows || old.told) changed holding w old new
      → ReadsDueHomes s r old new (c.reads old.o)
  reads_after w (Ok x) refused meets = record {
    loads = meets.reads.loads;
    became = meets.reads.first_use refused;
    bound = meets.reads.source.taken.no_more;
  }
  reads_after w (Err stop) refused meets = record {
    loads = meets.reads.loads;
    became = tt;
    bound = meets.reads.source.taken.no_more;
  }

  -- the call was made, and its line is written
  written : (w : Result Answer ElfError) (r : Result Bool Stop) → stop_in w ≡ None → Meets s c refusals (shows || old.told) changed holding w old new
      → Reports o e r t u (answer_report w) → LeavesOutputs o e ⊥ r t u → RunsCall s o e c r old new t u
  written w r none meets line left = record {
    lines = λ told. rw (stated_is told) line;
    left = λ told. on_ok r (stepped told);
    stopped = λ told. on_either r (stepped told) inr;
    reads = reads_after w r (on_ok r (settled w none)) meets;
    state = state_after w meets;
    leaves = reads_weaker o e (SourceRose s old new) r t u left;
  }
    where
      stated_is : IsTrue old.told → c.answer old.o ≡ w
      stated_is told = answer_is refusals w (c.answer old.o) none
          (subst (λ (b : Bool). AnswersRead b at_any_step refusals w (c.answer old.o)) (told_exact shows old.told told) meets.answers)

      stepped : IsTrue old.told → new.o ≡ step c old.o
      stepped told = step_is c changed w old.o new.o (stated_is told) (subst (λ (b : Bool). LeavesObject b c changed w old.o new.o) told meets.leaves)

  -- or it stops the run
  halted : (d : ElfError) (stop : Stop) → stop_of d ≡ Some stop → Meets s c refusals (shows || old.told) changed holding (Err d) old new
      → RunsCall s o e c (Err stop) old new t t
  halted d stop is meets = record {
    lines = λ told. reports_nothing o e t stop (answer_report (c.answer old.o));
    left = λ told. tt;
    stopped = λ told. inl meets.leaves;
    reads = reads_after (Err d) (Err stop) tt meets;
    state = state_after (Err d) meets;
    leaves = by_error d is meets.reads.source.read;
  }
    where
      by_error : (d : ElfError) → stop_of d ≡ Some stop → ReadRose {T = Answer} (Err d) (s.faults old.source) (s.faults new.source)
          → LeavesOutputs {T = Bool} o e (SourceRose s old new) (Err stop) t t
      by_error Memory is rose = let same : stop ≡ stops.Memory = cc in rw same (record { keeps = keeps_none o e t; read = tt; write = tt })
      by_error Read is rose = let same : stop ≡ stops.Read = cc in rw same (record { keeps = keeps_none o e t; read = rose; write = tt })
      by_error Write is never = absurd never
      by_error d is rose = cc

  pub call_run : (w : Result Answer ElfError) (r : Result Bool Stop) → Meets s c refusals (shows || old.told) changed holding w old new → ShowsAnswer o e w r t u
      → RunsCall s o e c r old new t u
  call_run (Ok x) r meets shown = written (Ok x) r refl meets shown.reports shown.leaves
  call_run (Err Memory) r meets shown = rw (shown.stops.0, shown.stops.1) (halted Memory stops.Memory refl meets)
  call_run (Err Read) r meets shown = rw (shown.stops.0, shown.stops.1) (halted Read stops.Read refl meets)
  call_run (Err Write) r meets shown = rw (shown.stops.0, shown.stops.1) (halted Write stops.Write refl meets)
  call_run (Err d) r meets shown = written (Err d) r refl meets shown.reports shown.leaves

-- ---- What is left of the calls

report_cons : (q : Call) (cs : List Call) (o : Object) → calls_report (q ∷ cs) o ≡ joined_reports (answer_report ((stated_call q).answer o)) (calls_report cs (step (stated_call q) o))
unfolding calls_report reports_of all_reports_joined answers_to
report_cons q cs o = refl

report_nil : (o : Object) → calls_report [] o ≡ no_report
unfolding calls_report reports_of all_reports_joined answers_to
report_nil o = refl

module _ (cs : List Call) (i : ℕ) (q : Call) (o : Object) (lt : i < length cs) (is : q ≡ get_or cs i q) where
  report_left : calls_report (drop i cs) o ≡ joined_reports (answer_report ((stated_call q).answer o)) (calls_report (drop (i + 1) cs) (step (stated_call q) o))
  report_left =
      at_drop_more (λ l. calls_report l o) cs i q lt ∙ ap (λ (d : Call). calls_report (d ∷ drop (i + 1) cs) o) (sym is) ∙ report_cons q (drop (i + 1) cs) o

left_last : (cs : List Call) (q : Call) (o : Object) → left_by (stated_calls (cs ++ q ∷ [])) o ≡ step (stated_call q) (left_by (stated_calls cs) o)
unfolding left_by
left_last [] q o = refl
left_last (d ∷ cs) q o = left_last cs q (step (stated_call d) o)

left_more : (cs : List Call) (i : ℕ) (q : Call) (o : Object) → i < length cs → q ≡ get_or cs i q
    → left_by (stated_calls (take (i + 1) cs)) o ≡ step (stated_call q) (left_by (stated_calls (take i cs)) o)
left_more cs i q o lt is =
    ap (λ (l : List Call). left_by (stated_calls l) o) (take_more cs i q lt ∙ ap (λ (d : Call). take i cs ++ d ∷ []) (sym is)) ∙ left_last (take i cs) q o

left_none : (cs : List Call) (o : Object) → o ≡ left_by (stated_calls (take 0 cs)) o
unfolding left_by
left_none cs o = refl

cons_reads : (q : Call) (cs : List Call) (o : Object) (x : ℕ) → has ((stated_call q).reads o) x ≡ true → has (read_by (stated_calls (q ∷ cs)) o) x ≡ true
cons_reads q cs o x is = next_reads (stated_calls (q ∷ cs)) 0 (stated_call q) o x (omega arith) refl is

cons_rest : (q : Call) (cs : List Call) (o : Object) (x : ℕ) → has (read_by (stated_calls cs) (step (stated_call q) o)) x ≡ true
    → has (read_by (stated_calls (q ∷ cs)) o) x ≡ true
cons_rest q cs o x is = rest_reads (stated_calls (q ∷ cs)) 0 (stated_call q) o x (omega arith) refl is

module _ (cs : List Call) (i : ℕ) (q : Call) (o : Object) (x : ℕ) (lt : i < length cs) (is : q ≡ get_or cs i q) where
  at_call : has (read_by (stated_calls (drop i cs)) o) x ≡ has (read_by (stated_calls (q ∷ drop (i + 1) cs)) o) x
  at_call = at_drop_more (λ (l : List Call). has (read_by (stated_calls l) o) x) cs i q lt ∙ ap (λ (d : Call). has (read_by (stated_calls (d ∷ drop (i + 1) cs)) o) x) (sym is)

  call_reads : has ((stated_call q).reads o) x ≡ true → has (read_by (stated_calls (drop i cs)) o) x ≡ true
  call_reads here = at_call ∙ cons_reads q (drop (i + 1) cs) o x here

  later_reads : has (read_by (stated_calls (drop (i + 1) cs)) (step (stated_call q) o)) x ≡ true → has (read_by (stated_calls (drop i cs)) o) x ≡ true
  later_reads there = at_call ∙ cons_rest q (drop (i + 1) cs) o x there

-- ---- The loop

-- the calls up to one were run, with `refused` as the answer so far
pub record RunUnderWay {S O E : Type 0} (s : SourceGhosts S) (o : SinkGhosts O) (e : SinkGhosts E) (cs : List Call) (i : ℕ) (refused : Bool) (old new : State S)
    (t u : Outputs O E) : Type 0 where
  pub report : IsTrue old.told → UnderWay o e refused t u (calls_report cs old.o) (calls_report (drop i cs) new.o)
  pub left : IsTrue old.told → new.o ≡ left_by (stated_calls (take i cs)) old.o
  pub homes : IsTrue old.told → KeepsHomes old.o new.o
  pub within : IsTrue old.told → (x : ℕ) → has (read_by (stated_calls (drop i cs)) new.o) x ≡ true → has (read_by (stated_calls cs) old.o) x ≡ true
  pub reads : IsTrue old.told → ReadsDueHomes s (Ok refused) old new (read_by (stated_calls cs) old.o)
  pub state : LeavesState s old new
  pub keeps : KeepsSinks o e t u

pub run_begins : {S O E : Type 0} (s : SourceGhosts S) (o : SinkGhosts O) (e : SinkGhosts E) (cs : List Call) (a : State S) (t : Outputs O E)
    → RunUnderWay s o e cs 0 false a a t t
run_begins s o e cs a t = record {
  report = λ told. begins o e t (calls_report cs a.o);
  left = λ told. left_none cs a.o;
  homes = λ told. homes_same a.o;
  within = λ told x is. is;
  reads = λ told. reads_none s false a (read_by (stated_calls cs) a.o);
  state = state_none s a;
  keeps = keeps_none o e t;
}

module _ {S O E : Type 0} {s : SourceGhosts S} {o : SinkGhosts O} {e : SinkGhosts E} {cs : List Call} {i : ℕ} {refused : Bool} {a b : State S} {t u : Outputs O E}
    (h : RunUnderWay s o e cs i refused a b t u) where
  told_on : IsTrue a.told → IsTrue b.told
  told_on told = h.state.told ∙ told

  module _ {c : State S} {v : Outputs O E} (q : Call) (lt : i < length cs) (is : q ≡ get_or cs i q) where
    -- the next call is run
    pub run_goes_on : {y z : Bool} → RunsCall s o e (stated_call q) (Ok y) b c u v → z ≡ (refused || y) → RunUnderWay s o e cs (i + 1) z a c t v
    run_goes_on {y} {z} k or = record {
      report = λ told.
          goes_on (h.report told) (answer_report ((stated_call q).answer b.o)) (calls_report (drop (i + 1) cs) c.o)
          (report_left cs i q b.o lt is ∙ ap (λ (m : Object). joined_reports (answer_report ((stated_call q).answer b.o)) (calls_report (drop (i + 1) cs) m)) (sym (k.left (told_on told))))
          (k.lines (told_on told)) or;
      left = λ told.
          k.left (told_on told) ∙ ap (step (stated_call q)) (h.left told) ∙ sym (left_more cs i q a.o lt is);
      homes = λ told.
          homes_then a.o b.o c.o (h.homes told) (subst (KeepsHomes b.o) (sym (k.left (told_on told))) (stated_keeps q b.o));
      within = λ told x there.
          h.within told x (later_reads cs i q b.o x lt is (subst (λ (m : Object). has (read_by (stated_calls (drop (i + 1) cs)) m) x ≡ true) (k.left (told_on told)) there));
      reads = λ told.
          reads_more s a b c (read_by (stated_calls cs) a.o) ((stated_call q).reads b.o) (h.homes told) (stated_once q b.o)
          (λ x here. h.within told x (call_reads cs i q b.o x lt is here)) refused (h.reads told) y z k.state.stays k.reads;
      state = state_then s a b c h.state k.state;
      keeps = keeps_then o e t u v h.keeps k.leaves.keeps;
    }

    -- or stops the run
    pub run_stops : {stop : Stop} → RunsCall s o e (stated_call q) (Err stop) b c u v → RunsCalls s o e cs (Err stop) a c t v
    run_stops {stop} k = record {
      lines = λ told.
          stops_at (h.report told) (answer_report ((stated_call q).answer b.o)) (calls_report (drop (i + 1) cs) (step (stated_call q) b.o)) (report_left cs i q b.o lt is) (k.lines (told_on told));
      left = λ told. tt;
      stopped = λ told. by_object told (k.stopped (told_on told));
      reads = λ told.
          reads_stop s a b c (read_by (stated_calls cs) a.o) ((stated_call q).reads b.o) (h.homes told) (stated_once q b.o)
          (λ x here. h.within told x (call_reads cs i q b.o x lt is here)) refused (h.reads told) stop k.reads;
      state = state_then s a b c h.state k.state;
      leaves = left_after o e (Err stop) (s.faults a.source) (s.faults b.source) (s.faults c.source) t u v h.state.later h.keeps k.leaves;
    }
      where
        by_object : IsTrue a.told → (c.o ≡ b.o) ⊎ (c.o ≡ step (stated_call q) b.o) → IsLeftByFirstCalls cs a.o c.o
        by_object told (inl same) = record { count = i; within = omega (arith, lt); left = same ∙ h.left told }
        by_object told (inr stepped) = record {
          count = i + 1;
          within = omega (arith, lt);
          left = stepped ∙ ap (step (stated_call q)) (h.left told) ∙ sym (left_more cs i q a.o lt is);
        }

  -- all calls were run
  pub run_ends : length cs ≤ i → RunsCalls s o e cs (Ok refused) a b t u
  run_ends le = record {
    lines = λ told. is_given (h.report told) (at_drop_all (λ (l : List Call). calls_report l b.o) cs i le ∙ report_nil b.o);
    left = λ told. h.left told ∙ ap (λ (l : List Call). left_by (stated_calls l) a.o) (take_all i cs le);
    stopped = λ told. tt;
    reads = h.reads;
    state = h.state;
    leaves = record { keeps = h.keeps; read = tt; write = tt };
  }
