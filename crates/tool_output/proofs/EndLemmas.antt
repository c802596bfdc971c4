-- The end of a call over two sinks.
use Rattle.std.proofs.Common.{◌≡◌, ◌++◌, List, [], Result, Ok, Err, OnOk, OnErr, IfOk, sym, ap, ◌∙◌, subst, append_assoc}
use Rattle.elf_outside.specs.declared.sinks.Sink.{Ghosts}
use Rattle.tool_output.specs.declared.stops.Stop.{Stop}
use Rattle.tool_output.specs.declared.stops.Stop.TheVariants.{Read, Write, Memory}
use Rattle.tool_output.specs.declared.outputs.Outputs.{Outputs}
use Rattle.tool_output.specs.Marks.{Mark, said, Gained, GainedFront}
use Rattle.tool_output.specs.Steps.{waiting, Went, WentFront, Writes, OnKept, Ends, Ended}
use Rattle.tool_output.proofs.MarkLemmas.{said_none, gained_then}

module _ {O E : Type 0} (o : Ghosts O) (e : Ghosts E) (s t : Outputs O E) (out : O) (err : E) (empty : s.page.now ≡ []) where
  none_waits : (marks : List Mark) → waiting s ++ marks ≡ marks
  none_waits marks = ap (λ (m : List Mark). m ++ marks) (ap (said s.side) empty ∙ said_none s.side)

  abbrev Given : List Mark → Type 0
  Given m = Gained (o.wrote t.out.now) (o.wrote out) (e.wrote t.err.now) (e.wrote err) m

  abbrev GivenFront : List Mark → Type 0
  GivenFront m = GainedFront (o.wrote t.out.now) (o.wrote out) (e.wrote t.err.now) (e.wrote err) m

  abbrev All : List Mark → Type 0
  All m = Gained (o.wrote s.out.now) (o.wrote out) (e.wrote s.err.now) (e.wrote err) m

  abbrev Front : List Mark → Type 0
  Front m = GainedFront (o.wrote s.out.now) (o.wrote out) (e.wrote s.err.now) (e.wrote err) m

  after : (m n : List Mark) → Gained (o.wrote s.out.now) (o.wrote t.out.now) (e.wrote s.err.now) (e.wrote t.err.now) m
      → Gained (o.wrote t.out.now) (o.wrote out) (e.wrote t.err.now) (e.wrote err) n → All (m ++ n)
  after m n h k =
      gained_then (o.wrote s.out.now) (o.wrote t.out.now) (o.wrote out) (e.wrote s.err.now) (e.wrote t.err.now) (e.wrote err) m n h k

  -- what waited was put
  all_put : (marks : List Mark) → Went o e s t marks → Given (waiting t) → All marks
  all_put marks h k = subst (λ (m : List Mark). All m) (sym h.all ∙ none_waits marks) (after h.put (waiting t) h.gained k)

  front_put : (marks : List Mark) → WentFront o e s t marks → Given (waiting t) → Front marks
  front_put marks h k = record { put = h.front; rest = h.rest; all = h.all; gained = all_put h.front h.went k }

  -- a front of what waited was put
  all_failed : (marks : List Mark) → Went o e s t marks → GivenFront (waiting t) → Front marks
  all_failed marks h k = record {
    put = h.put ++ k.put;
    rest = k.rest;
    all = sym (none_waits marks) ∙ h.all ∙ ap (λ (m : List Mark). h.put ++ m) k.all ∙ sym (append_assoc h.put k.put k.rest);
    gained = after h.put k.put h.gained k.gained;
  }

  longer : (marks more : List Mark) → Front marks → Front (marks ++ more)
  longer marks more h = record {
    put = h.put;
    rest = h.rest ++ more;
    all = ap (λ (m : List Mark). m ++ more) h.all ∙ append_assoc h.put h.rest more;
    gained = h.gained;
  }

  front_failed : (marks : List Mark) → WentFront o e s t marks → GivenFront (waiting t) → Front marks
  front_failed marks h k = subst (λ (m : List Mark). Front m) (sym h.all) (longer h.front h.rest (all_failed h.front h.went k))

  over : {T : Type 0} (result : Result T Stop) (marks : List Mark) → OnOk result (All marks) → OnErr result (Front marks)
      → Ended result (o.wrote s.out.now) (o.wrote out) (e.wrote s.err.now) (e.wrote err) marks
  over result marks whole stopped = record { whole = whole; stopped = stopped }

  pub ended : {T : Type 0} (r result : Result T Stop) (marks : List Mark) → Writes o e r s t marks → Ends o e r result t out err
      → Ended result (o.wrote s.out.now) (o.wrote out) (e.wrote s.err.now) (e.wrote err) marks
  ended (Ok x) (Ok y) marks h k = over (Ok y) marks (all_put marks h.ok k.put) tt
  ended (Ok x) (Err Write) marks h k = over (Err Write) marks tt (all_failed marks h.ok k.failed)
  ended (Ok x) (Err Read) marks h k = let no = k.answer in cc
  ended (Ok x) (Err Memory) marks h k = let no = k.answer in cc
  ended (Err Read) (Ok y) marks h k = let no = k.answer in cc
  ended (Err Read) (Err Read) marks h k = over (Err Read) marks tt (front_put marks h.stopped k.put)
  ended (Err Read) (Err Write) marks h k = over (Err Write) marks tt (front_failed marks h.stopped k.failed)
  ended (Err Read) (Err Memory) marks h k = let no = k.answer in cc
  ended (Err Memory) (Ok y) marks h k = let no = k.answer in cc
  ended (Err Memory) (Err Read) marks h k = let no = k.answer in cc
  ended (Err Memory) (Err Write) marks h k = over (Err Write) marks tt (front_failed marks h.stopped k.failed)
  ended (Err Memory) (Err Memory) marks h k = over (Err Memory) marks tt (front_put marks h.stopped k.put)
  ended (Err Write) result marks h k =
      let lost : Front marks = subst (λ (x : O). GainedFront (o.wrote s.out.now) (o.wrote x) (e.wrote s.err.now) (e.wrote err) marks) (sym k.lost.1)
      (subst (λ (x : E). GainedFront (o.wrote s.out.now) (o.wrote t.out.now) (e.wrote s.err.now) (e.wrote x) marks) (sym k.lost.2)
      (subst (λ (m : List Mark). GainedFront (o.wrote s.out.now) (o.wrote t.out.now) (e.wrote s.err.now) (e.wrote t.err.now) m) (none_waits marks) h.lost)) in
      rw k.lost.0 (over (Err Write) marks tt lost)

-- what holds of the answer of the last step holds of the answer at the end
module _ {T : Type 0} where
  pub ok_at : (r result : Result T Stop) (P : T → Type 0) → OnKept result (result ≡ r) → IfOk r P → IfOk result P
  ok_at r (Ok x) P same h = subst (λ (q : Result T Stop). IfOk q P) (sym same) h
  ok_at r (Err stop) P same h = tt

-- the same of the sinks that a caller handed in, before and after
pub ended_over : {O E T : Type 0} (o : Ghosts O) (e : Ghosts E) (s t : Outputs O E) (out_old out_new out : O) (err_old err_new err : E)
    → s.page.now ≡ [] → s.out.now ≡ out_old → s.err.now ≡ err_old → out ≡ out_new → err ≡ err_new
    → (r result : Result T Stop) (marks : List Mark) → Writes o e r s t marks → Ends o e r result t out err
    → Ended result (o.wrote out_old) (o.wrote out_new) (e.wrote err_old) (e.wrote err_new) marks
ended_over o e s t out_old out_new out err_old err_new err empty a b c d r result marks h k =
    rw (← a, ← b, ← c, ← d) (ended o e s t out err empty r result marks h k)
