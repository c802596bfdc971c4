-- Reports, one after another.
use Rattle.std.proofs.Common.{◌≡◌, ◌++◌, ◌||◌, Bool, true, false, ℕ, List, [], Result, Ok, Err, refl, ap, ◌∙◌, subst, append_assoc, append-nil}
use Rattle.elf_outside.specs.declared.sinks.Sink.{Ghosts}
use Rattle.tool_output.specs.declared.stops.Stop.{Stop}
use Rattle.tool_output.specs.declared.outputs.Outputs.{Outputs}
use Rattle.tool_output.specs.declared.outputs.Side.TheVariants.{Out}
use Rattle.tool_output.specs.Marks.{Mark, said}
use Rattle.tool_output.specs.Reports.{Report, Reports, no_report, shown_report, joined_reports}
use Rattle.tool_output.proofs.StepLemmas.{went_none, went_then, writes_went, writes_then, writes_stop, writes_nothing}

or_assoc : (a b c : Bool) → ((a || b) || c) ≡ (a || (b || c))
or_assoc true b c = refl
or_assoc false b c = refl

pub or_false : (a : Bool) → (a || false) ≡ a
or_false true = refl
or_false false = refl

both : (a b : Report) → a.marks ≡ b.marks → a.refused ≡ b.refused → a ≡ b
both a b m r = subst (λ (x : Bool). a ≡ record { marks = b.marks; refused = x }) r (ap (λ (x : List Mark). record { marks = x; refused = a.refused }) m)

pub joined_assoc : (a b c : Report) → joined_reports (joined_reports a b) c ≡ joined_reports a (joined_reports b c)
unfolding joined_reports
joined_assoc a b c = both _ _ (append_assoc a.marks b.marks c.marks) (or_assoc a.refused b.refused c.refused)

pub no_report_joined : (a : Report) → joined_reports no_report a ≡ a
unfolding joined_reports no_report
no_report_joined a = refl

pub joined_no_report : (a : Report) → joined_reports a no_report ≡ a
unfolding joined_reports no_report
joined_no_report a = both _ _ (append-nil a.marks) (or_false a.refused)

module _ {O E : Type 0} (o : Ghosts O) (e : Ghosts E) where
  pub reports_none : (s : Outputs O E) → Reports o e (Ok false) s s no_report
  unfolding no_report
  reports_none s = record { writes = writes_went o e false s s [] (went_none o e s); value_is = refl }

  -- a step that stops before it writes
  pub reports_nothing : (s : Outputs O E) (stop : Stop) (a : Report) → Reports o e (Err stop) s s a
  reports_nothing s stop a = record { writes = writes_nothing o e stop s a.marks; value_is = tt }

  module _ (s t u : Outputs O E) (a b : Report) where
    -- two reports
    pub reports_then : (x y z : Bool) → z ≡ (x || y) → Reports o e (Ok x) s t a → Reports o e (Ok y) t u b → Reports o e (Ok z) s u (joined_reports a b)
    unfolding joined_reports
    reports_then x y z is h k = record {
      writes = writes_went o e z s u (a.marks ++ b.marks) (went_then o e s t u a.marks b.marks h.writes.ok k.writes.ok);
      value_is = is ∙ ap (λ (v : Bool). v || y) h.value_is ∙ ap (λ (v : Bool). a.refused || v) k.value_is;
    }

    -- the second of two stops
    pub reports_then_stop : (x : Bool) (stop : Stop) → Reports o e (Ok x) s t a → Reports o e (Err stop) t u b → Reports o e (Err stop) s u (joined_reports a b)
    unfolding joined_reports
    reports_then_stop x stop h k = record {
      writes = writes_then o e x (Err stop) s t u a.marks b.marks h.writes k.writes;
      value_is = tt;
    }

  -- the first of two stops
  pub reports_stop : (s t : Outputs O E) (a b : Report) (stop : Stop) → Reports o e (Err stop) s t a → Reports o e (Err stop) s t (joined_reports a b)
  unfolding joined_reports
  reports_stop s t a b stop h = record { writes = writes_stop o e stop s t a.marks b.marks h.writes; value_is = tt }

  -- text on standard output, and then a report
  pub shown_then : (r : Result Bool Stop) (s t u : Outputs O E) (text : List ℕ) (x : Bool) (b : Report)
      → Reports o e (Ok x) s t (shown_report text) → Reports o e r t u b → Reports o e r s u (joined_reports (shown_report text) b)
  unfolding joined_reports shown_report
  shown_then r s t u text x b h k = record {
    writes = writes_then o e x r s t u (said Out text) b.marks h.writes k.writes;
    value_is = k.value_is;
  }
