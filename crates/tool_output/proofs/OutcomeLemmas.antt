-- The end of a run.
use Rattle.std.proofs.Common.{◌≡◌, ◌⊎◌, inl, inr, ◌<◌, ◌≤◌, ℕ, Bool, true, false, List, [], length, Option, Some, None, Result, Ok, Err, OnOk, IfOk, IfErr, IsTrue, if◌then◌else◌, refl, sym, ap, ◌∙◌, subst, arith, lit≤}
use Rattle.std.proofs.lemmas.List.{take_all}
use Rattle.std.specs.Option.{option_map}
use Rattle.elf_outside.specs.Counts.{Rose}
use Rattle.elf_outside.specs.Torn.{IsTorn}
use Rattle.elf_outside.specs.declared.sinks.Sink.{Ghosts as SinkGhosts}
use Rattle.elf_outside.specs.declared.file_sets.Files.{Ghosts as FilesGhosts}
use Rattle.tool_output.specs.declared.stops.Stop.{Stop}
use Rattle.tool_output.specs.declared.stops.Stop.TheVariants.{Read, Write, Memory}
use Rattle.tool_output.specs.declared.outputs.Outputs.{Outputs}
use Rattle.tool_output.specs.Statuses.{refused_status, stop_status, ended_status}
use Rattle.tool_output.specs.Marks.{Mark}
use Rattle.tool_output.specs.Steps.{Writes, Ends, Ended, LeavesSinks, SinkRose, OnRead, OnWrite, OnKept}
use Rattle.tool_output.specs.Reports.{Report, Reports}
use Rattle.tool_output.specs.Files.{OnlyReads, LeavesFiles, IsWithin}
use Rattle.tool_output.specs.Outcomes.{FileWrite, Outcome, report_outcome, only_says, write_of, held_after, MayHoldChanged, MayHoldBytes, MayHold, Does, Delivers, Costs, RunLeaves}
use Rattle.tool_output.proofs.EndLemmas.{ended_over, ok_at}
use Rattle.tool_output.proofs.StepLemmas.{stops_as, writes_nothing}

module _ {F D O E : Type 0} (f : FilesGhosts F D) (o : SinkGhosts O) (e : SinkGhosts E) (a b : F) (s t : Outputs O E) where
  -- ---- Steps that only read files

  pub reads_done : (report : Report) (bound : Option ℕ) (result : Result Bool Stop) → IsTrue (f.tells a)
      → OnlyReads f a b → OnOk result (IsWithin bound (f.taken a) (f.taken b)) → Reports o e result s t report
      → Does f o e refused_status (report_outcome report bound) result a b s t
  unfolding report_outcome write_of
  reads_done report bound (Ok x) told reads within h = record {
    writes = h.writes;
    status = ap refused_status h.value_is;
    files = (reads.names told).same;
    left = tt;
    asks = within;
    gives = omega (arith, reads.given);
  }
  reads_done report bound (Err stop) told reads within h = record {
    writes = h.writes;
    status = tt;
    files = tt;
    left = (reads.names told).same;
    asks = tt;
    gives = omega (arith, reads.given);
  }

  -- marks and a status, where no file is touched
  pub says_done : {T : Type 0} (code : T → ℕ) (marks : List Mark) (status : ℕ) (result : Result T Stop)
      → Writes o e result s t marks → IfOk result (λ answer. code answer ≡ status)
      → Does f o e code (only_says marks status) result a a s t
  unfolding only_says write_of
  says_done code marks status (Ok x) h is = record { writes = h; status = is; files = λ name. refl; left = tt; asks = omega arith; gives = omega arith }
  says_done code marks status (Err stop) h is = record { writes = h; status = tt; files = tt; left = λ name. refl; asks = tt; gives = omega arith }

  -- another answer for the same status
  pub does_as : {S T : Type 0} (code : S → ℕ) (other : T → ℕ) (stated : Outcome) (v : S) (w : T) → other w ≡ code v
      → Does f o e code stated (Ok v) a b s t → Does f o e other stated (Ok w) a b s t
  does_as code other stated v w same d = record {
    writes = record { ok = d.writes.ok; stopped = tt; lost = tt };
    status = same ∙ d.status;
    files = d.files;
    left = tt;
    asks = d.asks;
    gives = d.gives;
  }

  pub stops_so : {S T : Type 0} (code : S → ℕ) (other : T → ℕ) (stated : Outcome) (stop : Stop)
      → Does f o e code stated (Err stop) a b s t → Does f o e other stated (Err stop) a b s t
  stops_so code other stated stop d = record {
    writes = stops_as o e stop s t stated.marks d.writes;
    status = tt;
    files = tt;
    left = d.left;
    asks = tt;
    gives = d.gives;
  }

-- ---- A file of a run that stopped

torn_old : (old new : List ℕ) → IsTorn old new old
torn_old old new = record { len = inl refl; each = λ k lt. inl refl }

torn_new : (old new : List ℕ) → IsTorn old new new
torn_new old new = record { len = inr refl; each = λ k lt. inr (lt, refl) }

changed_at_four : (bytes old now : List ℕ) (held : Option (List ℕ)) → held ≡ Some now → IsTorn old bytes now → MayHoldChanged 4 bytes old held
changed_at_four bytes old now held is torn = record {
  unread = λ no. absurd (omega arith);
  unwritten = λ four. (now, is, torn);
  wanting = λ no. absurd (omega arith);
}

old_or_new : (bytes old : List ℕ) (held : Option (List ℕ)) → (held ≡ Some old) ⊎ (held ≡ Some bytes) → MayHoldChanged 4 bytes old held
old_or_new bytes old held (inl same) = changed_at_four bytes old old held same (torn_old old bytes)
old_or_new bytes old held (inr whole) = changed_at_four bytes old bytes held whole (torn_new old bytes)

at_four : (stop : Stop) (in_place : Bool) (bytes : List ℕ) (old held : Option (List ℕ))
    → MayHoldBytes in_place (stop_status stop) bytes old held → MayHoldBytes in_place 4 bytes old held
at_four stop false bytes old held h = h
at_four stop true bytes None held h = h
at_four Read true bytes (Some old) held h = old_or_new bytes old held (inl (h.unread refl))
at_four Memory true bytes (Some old) held h = old_or_new bytes old held (h.wanting refl)
at_four Write true bytes (Some old) held h = h

-- what another stop may leave, a failed write may leave
stopped_at_four : (stop : Stop) (w : Option FileWrite) (old held : Option (List ℕ)) → MayHold (stop_status stop) w old held → MayHold 4 w old held
stopped_at_four stop None old held h = h
stopped_at_four stop (Some w) old held h = at_four stop w.in_place w.bytes old held h

whole_at_four : (in_place : Bool) (bytes : List ℕ) (old : Option (List ℕ))
    → MayHoldBytes in_place 4 bytes old (if in_place then option_map (λ _. bytes) old else Some bytes)
whole_at_four false bytes old = inr (length bytes, ap Some (sym (take_all (length bytes) bytes (omega arith))))
whole_at_four true bytes None = refl
whole_at_four true bytes (Some old) = old_or_new bytes old (Some bytes) (inr refl)

-- and so may be left what is stated
stated_at_four : (w : Option FileWrite) (old held : Option (List ℕ)) → held ≡ held_after w old → MayHold 4 w old held
stated_at_four None old held h = h
stated_at_four (Some w) old held h = subst (MayHoldBytes w.in_place 4 w.bytes old) (sym h) (whole_at_four w.in_place w.bytes old)

pub may_hold_same : (status : ℕ) (w : Option FileWrite) (old : Option (List ℕ)) → MayHold status w old old
may_hold_same status None old = refl
may_hold_same status (Some w) old = bytes_same w.in_place old
  where
    bytes_same : (in_place : Bool) (held : Option (List ℕ)) → MayHoldBytes in_place status w.bytes held held
    bytes_same true None = refl
    bytes_same true (Some before) =
        record { unread = λ three. refl; unwritten = λ four. (before, refl, torn_old before w.bytes); wanting = λ five. inl refl }
    bytes_same false held = inl refl

pub within_same : (bound : Option ℕ) (a : ℕ) → IsWithin bound a a
within_same None a = tt
within_same (Some n) a = omega arith

-- a step that stops before it does anything
pub nothing_done : {F D O E T : Type 0} (f : FilesGhosts F D) (o : SinkGhosts O) (e : SinkGhosts E) (code : T → ℕ) (stated : Outcome) (stop : Stop) (a : F) (s : Outputs O E)
    → Does f o e code stated (Err stop) a a s s
nothing_done f o e code stated stop a s = record {
  writes = writes_nothing o e stop s stated.marks;
  status = tt;
  files = tt;
  left = λ name. may_hold_same (stop_status stop) (write_of stated.writes name) (f.named a name);
  asks = tt;
  gives = within_same stated.gives (f.given a);
}

-- ---- The end

late : (stop : Stop) → 3 ≤ stop_status stop
late Read = lit≤ tt
late Write = lit≤ tt
late Memory = lit≤ tt

module _ {F D O E : Type 0} (f : FilesGhosts F D) (o : SinkGhosts O) (e : SinkGhosts E) (stated : Outcome) (a b : F)
    {T : Type 0} (code : T → ℕ) where
  abbrev HasFiles : Type 0
  HasFiles = (name : List ℕ) → f.named b name ≡ held_after (write_of stated.writes name) (f.named a name)

  abbrev HasLeft : Stop → Type 0
  HasLeft stop = (name : List ℕ) → MayHold (stop_status stop) (write_of stated.writes name) (f.named a name) (f.named b name)

  -- the files are those that the last step left, also where the last put failed
  left_at : (r result : Result T Stop) → OnKept result (result ≡ r) → OnOk r HasFiles → IfErr r HasLeft → IfErr result HasLeft
  left_at r (Ok x) same files left = tt
  left_at r (Err Read) same files left = subst (λ (q : Result T Stop). IfErr q HasLeft) (sym same) left
  left_at r (Err Memory) same files left = subst (λ (q : Result T Stop). IfErr q HasLeft) (sym same) left
  left_at (Ok x) (Err Write) same files left = λ name. stated_at_four (write_of stated.writes name) (f.named a name) (f.named b name) (files name)
  left_at (Err stop) (Err Write) same files left = λ name. stopped_at_four stop (write_of stated.writes name) (f.named a name) (f.named b name) (left name)

  delivers_by : (result : Result T Stop) (c d p q : Option (List ℕ)) → Ended result c d p q stated.marks
      → IfOk result (λ v. code v ≡ stated.status) → IfOk result (λ v. code v < 3) → OnOk result HasFiles → IfErr result HasLeft
      → Delivers stated (ended_status code result) c d p q (f.named a) (f.named b)
  delivers_by (Ok v) c d p q h is small files left = record {
    status_is = λ early. is;
    whole = λ early. h.whole;
    stopped = λ too_late. absurd (omega arith);
    files = λ early. files;
    left = λ too_late. absurd (omega arith);
  }
  delivers_by (Err stop) c d p q h is small files left = record {
    status_is = λ early. absurd (let l = late stop in omega (arith, early));
    whole = λ early. absurd (let l = late stop in omega (arith, early));
    stopped = λ is_late. h.stopped;
    files = λ early. absurd (let l = late stop in omega (arith, early));
    left = λ is_late. left;
  }

  done_at : (r result : Result T Stop) (P : Type 0) → OnKept result (result ≡ r) → OnOk r P → OnOk result P
  done_at r (Ok x) P same h = subst (λ (q : Result T Stop). OnOk q P) (sym same) h
  done_at r (Err stop) P same h = tt

  at_status : (result : Result T Stop) (P : Type 0) → OnOk result P → ended_status code result < 2 → P
  at_status (Ok v) P h small = h
  at_status (Err stop) P h small = absurd (let l = late stop in omega (arith, small))

  at_three : (result : Result T Stop) (P : Type 0) → IfOk result (λ v. code v < 3) → OnRead result P → ended_status code result ≡ 3 → P
  at_three (Ok v) P small h is = absurd (omega arith)
  at_three (Err Read) P small h is = h
  at_three (Err Write) P small h is = cc
  at_three (Err Memory) P small h is = cc

  at_four_write : (result : Result T Stop) (P : Type 0) → IfOk result (λ v. code v < 3) → OnWrite result P → ended_status code result ≡ 4 → P
  at_four_write (Ok v) P small h is = absurd (omega arith)
  at_four_write (Err Read) P small h is = cc
  at_four_write (Err Write) P small h is = h
  at_four_write (Err Memory) P small h is = cc

  module _ (r result : Result T Stop) (s t : Outputs O E) (out_old out_new out : O) (err_old err_new err : E)
      (is_out : s.out.now ≡ out_old) (is_err : s.err.now ≡ err_old) (ends_out : out ≡ out_new) (ends_err : err ≡ err_new)
      (h : Ends o e r result t out err) (small : IfOk r (λ v. code v < 3)) where
    pub run_delivers : (status : ℕ) → status ≡ ended_status code result → s.page.now ≡ [] → Does f o e code stated r a b s t
        → Delivers stated status (o.wrote out_old) (o.wrote out_new) (e.wrote err_old) (e.wrote err_new) (f.named a) (f.named b)
    run_delivers status is empty d =
        subst (λ (n : ℕ). Delivers stated n (o.wrote out_old) (o.wrote out_new) (e.wrote err_old) (e.wrote err_new) (f.named a) (f.named b)) (sym is)
        (delivers_by result (o.wrote out_old) (o.wrote out_new) (e.wrote err_old) (e.wrote err_new)
        (ended_over o e s t out_old out_new out err_old err_new err empty is_out is_err ends_out ends_err r result stated.marks d.writes h)
        (ok_at r result (λ v. code v ≡ stated.status) h.answer d.status)
        (ok_at r result (λ v. code v < 3) h.answer small) (done_at r result HasFiles h.answer d.files) (left_at r result h.answer d.files d.left))

    pub run_costs : Does f o e code stated r a b s t → Costs stated (ended_status code result) (f.taken a) (f.taken b) (f.given a) (f.given b)
    run_costs d = record {
      asks = at_status result (IsWithin stated.asks (f.taken a) (f.taken b)) (done_at r result (IsWithin stated.asks (f.taken a) (f.taken b)) h.answer d.asks);
      gives = d.gives;
    }

    read_at : (q : Result T Stop) (P : Type 0) → OnKept q (q ≡ r) → OnRead r P → OnRead q P
    read_at (Err Read) P same k = subst (λ (x : Result T Stop). OnRead x P) (sym same) k
    read_at (Err Write) P same k = tt
    read_at (Err Memory) P same k = tt
    read_at (Ok v) P same k = tt

    sinks : LeavesFiles f o e r a b s t → LeavesSinks o e out_old out_new err_old err_new
    sinks l = rw (← is_out, ← is_err, ← ends_out, ← ends_err) (record {
      out_rest = h.leaves.out_rest ∙ l.keeps.leaves.out_rest;
      err_rest = h.leaves.err_rest ∙ l.keeps.leaves.err_rest;
      out_later = omega (arith, h.leaves.out_later, l.keeps.leaves.out_later);
      err_later = omega (arith, h.leaves.err_later, l.keeps.leaves.err_later);
    })

    abbrev Wrote : Type 0
    Wrote = Rose (f.write_faults a) (f.write_faults b) ⊎ SinkRose o e s.out.now out s.err.now err

    last_failed : LeavesSinks o e s.out.now t.out.now s.err.now t.err.now → SinkRose o e t.out.now out t.err.now err → Wrote
    last_failed k (inl rose) = inr (inl (let p = k.out_later in omega arith))
    last_failed k (inr rose) = inr (inr (let p = k.err_later in omega arith))

    step_failed : Rose (f.write_faults a) (f.write_faults b) ⊎ SinkRose o e s.out.now t.out.now s.err.now t.err.now → Wrote
    step_failed (inl rose) = inl rose
    step_failed (inr (inl rose)) = inr (inl (let p = h.leaves.out_later in omega arith))
    step_failed (inr (inr rose)) = inr (inr (let p = h.leaves.err_later in omega arith))

    wrote_at : (q p : Result T Stop) → LeavesSinks o e s.out.now t.out.now s.err.now t.err.now → OnWrite q (OnKept p (SinkRose o e t.out.now out t.err.now err))
        → OnWrite p (Rose (f.write_faults a) (f.write_faults b) ⊎ SinkRose o e s.out.now t.out.now s.err.now t.err.now) → OnWrite q Wrote
    wrote_at (Ok v) p k last step = tt
    wrote_at (Err Read) p k last step = tt
    wrote_at (Err Memory) p k last step = tt
    wrote_at (Err Write) (Ok v) k last step = last_failed k last
    wrote_at (Err Write) (Err Read) k last step = last_failed k last
    wrote_at (Err Write) (Err Memory) k last step = last_failed k last
    wrote_at (Err Write) (Err Write) k last step = step_failed step

    pub run_leaves : LeavesFiles f o e r a b s t → RunLeaves f o e (ended_status code result) a b out_old out_new err_old err_new
    run_leaves l = record {
      totals = l.totals;
      sinks = sinks l;
      read = at_three result (Rose (f.read_faults a) (f.read_faults b)) (ok_at r result (λ v. code v < 3) h.answer small) (read_at result (Rose (f.read_faults a) (f.read_faults b)) h.answer l.read);
      write = rw (← is_out, ← is_err, ← ends_out, ← ends_err) (at_four_write result Wrote (ok_at r result (λ v. code v < 3) h.answer small) (wrote_at result r l.keeps.leaves h.cause l.write));
    }
