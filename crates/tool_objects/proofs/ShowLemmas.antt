-- The public call of a tool, which ends the outputs.
use Rattle.std.proofs.Common.{◌≡◌, inl, inr, ℕ, Bool, [], Result, Ok, Err, ◌∙◌, subst, sym, arith}
use Rattle.tool_output.specs.elf_outside.declared.sources.Source.{Ghosts as SourceGhosts}
use Rattle.tool_output.specs.elf_outside.declared.sinks.Sink.{Ghosts as SinkGhosts}
use Rattle.gelf_view.specs.elf_object.Object.{Object}
use Rattle.gelf_view.specs.elf_descriptor.State.{State}
use Rattle.tool_output.specs.declared.stops.Stop.{Stop}
use Rattle.tool_output.specs.declared.stops.Stop.TheVariants.{Read, Write, Memory}
use Rattle.tool_output.specs.declared.outputs.Outputs.{Outputs}
use Rattle.tool_output.specs.Reports.{Report}
use Rattle.tool_output.specs.Steps.{Ends, OnRead, OnWrite, OnKept, LeavesSinks, SinkRose}
use Rattle.tool_output.proofs.EndLemmas.{ended_over, ok_at}
use Rattle.tool_objects.specs.Steps.{ReportsOver, WentOn, SourceRose}
use Rattle.tool_objects.specs.Shows.{ShowsOver}
use Rattle.tool_objects.proofs.ElfSteps.{left_as}

module _ {S O E : Type 0} (s : SourceGhosts S) (o : SinkGhosts O) (e : SinkGhosts E) where
  -- it went on only where the last step did
  went_kept : (r result : Result Bool Stop) → OnKept result (result ≡ r) → WentOn result → WentOn r
  went_kept r (Ok x) same went = subst (λ (q : Result Bool Stop). WentOn q) same tt
  went_kept r (Err stop) same went = absurd went

  pub read_kept : (r result : Result Bool Stop) (P : Type 0) → OnKept result (result ≡ r) → OnRead r P → OnRead result P
  read_kept r (Ok x) P same h = tt
  read_kept r (Err Read) P same h = subst (λ (q : Result Bool Stop). OnRead q P) (sym same) h
  read_kept r (Err Write) P same h = tt
  read_kept r (Err Memory) P same h = tt

  module _ (t u : Outputs O E) (out : O) (err : E) (k : LeavesSinks o e t.out.now u.out.now t.err.now u.err.now) (l : LeavesSinks o e u.out.now out u.err.now err) where
    abbrev pub Rises : Type 0
    Rises = SinkRose o e t.out.now out t.err.now err

    last_failed : SinkRose o e u.out.now out u.err.now err → Rises
    last_failed (inl rose) = inl (let p = k.out_later in omega arith)
    last_failed (inr rose) = inr (let p = k.err_later in omega arith)

    step_failed : SinkRose o e t.out.now u.out.now t.err.now u.err.now → Rises
    step_failed (inl rose) = inl (let p = l.out_later in omega arith)
    step_failed (inr rose) = inr (let p = l.err_later in omega arith)

    pub write_kept : (r result : Result Bool Stop) → OnWrite result (OnKept r (SinkRose o e u.out.now out u.err.now err))
        → OnWrite r (SinkRose o e t.out.now u.out.now t.err.now u.err.now) → OnWrite result Rises
    write_kept r (Ok x) last step = tt
    write_kept r (Err Read) last step = tt
    write_kept r (Err Memory) last step = tt
    write_kept (Ok x) (Err Write) last step = last_failed last
    write_kept (Err Read) (Err Write) last step = last_failed last
    write_kept (Err Memory) (Err Write) last step = last_failed last
    write_kept (Err Write) (Err Write) last step = step_failed step

    pub sinks_kept : LeavesSinks o e t.out.now out t.err.now err
    sinks_kept = record {
      out_rest = l.out_rest ∙ k.out_rest;
      err_rest = l.err_rest ∙ k.err_rest;
      out_later = omega (arith, k.out_later, l.out_later);
      err_later = omega (arith, k.err_later, l.err_later);
    }

  pub shows : {n : ℕ} (report : Object → Report) (r result : Result Bool Stop) (a b : State S) (t u : Outputs O E) (out_old out_new out : O) (err_old err_new err : E)
      → t.page.now ≡ [] → t.out.now ≡ out_old → t.err.now ≡ err_old → out ≡ out_new → err ≡ err_new
      → ReportsOver s o e n report r a b t u → Ends o e r result u out err
      → ShowsOver s o e n report result a b out_old out_new err_old err_new
  shows report r result a b t u out_old out_new out err_old err_new err empty p q x y h k = record {
    ended = λ told. ended_over o e t u out_old out_new out err_old err_new err empty p q x y r result (report a.o).marks (h.reports told).writes k;
    answer = λ told. ok_at r result (λ refused. refused ≡ (report a.o).refused) k.answer (h.reports told).value_is;
    elf = left_as s (WentOn r) (WentOn result) a b (went_kept r result k.answer) h.elf;
    sinks = rw (← p, ← q, ← x, ← y) (sinks_kept t u out err h.leaves.keeps.leaves k.leaves);
    read = read_kept r result (SourceRose s a b) k.answer h.leaves.read;
    write = rw (← p, ← q, ← x, ← y) (write_kept t u out err h.leaves.keeps.leaves k.leaves r result k.cause h.leaves.write);
  }
