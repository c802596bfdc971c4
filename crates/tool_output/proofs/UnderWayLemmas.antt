-- A report that is given in steps, by what is left of it: what goes over names, members, rows or parts.
use Rattle.std.proofs.Common.{◌≡◌, ◌++◌, ◌||◌, ◌+◌, ◌<◌, ◌≤◌, Bool, false, ℕ, List, [], ◌∷◌, length, drop, get_or, Result, Ok, Err, refl, sym, ap, ◌∙◌, subst}
use Rattle.std.specs.List.{flat_map}
use Rattle.std.proofs.lemmas.List.{at_drop_more, at_drop_all}
use Rattle.std.proofs.lemmas.List.Concat.{flat_map-cons}
use Rattle.elf_outside.specs.declared.sinks.Sink.{Ghosts}
use Rattle.tool_output.specs.declared.stops.Stop.{Stop}
use Rattle.tool_output.specs.declared.outputs.Side.TheVariants.{Out}
use Rattle.tool_output.specs.declared.outputs.Outputs.{Outputs}
use Rattle.tool_output.specs.Lines.{numbered_lines}
use Rattle.tool_output.specs.Reports.{Report, Reports, no_report, shown_report, joined_reports, all_reports_joined, reports_of, UnderWay}
use Rattle.tool_output.proofs.MarkLemmas.{said_append, said_none}
use Rattle.tool_output.proofs.ReportLemmas.{or_false, joined_assoc, no_report_joined, joined_no_report, reports_none, reports_then, reports_then_stop, reports_stop}

-- ---- The steps

-- nothing is given yet, and the whole is left
pub begins : {O E : Type 0} (o : Ghosts O) (e : Ghosts E) (s : Outputs O E) (whole : Report) → UnderWay o e false s s whole whole
begins o e s whole = record { done = no_report; given = reports_none o e s; left = no_report_joined whole }

module _ {O E : Type 0} {o : Ghosts O} {e : Ghosts E} {x : Bool} {s t : Outputs O E} {whole rest : Report} (h : UnderWay o e x s t whole rest) where
  one_more : (a left : Report) → rest ≡ joined_reports a left → joined_reports (joined_reports h.done a) left ≡ whole
  one_more a left is = joined_assoc h.done a left ∙ ap (joined_reports h.done) (sym is) ∙ h.left

  -- the next of what is left is given
  pub goes_on : {u : Outputs O E} {y z : Bool} (a left : Report) → rest ≡ joined_reports a left → Reports o e (Ok y) t u a → z ≡ (x || y)
      → UnderWay o e z s u whole left
  goes_on {u} {y} {z} a left is k or = record {
    done = joined_reports h.done a;
    given = reports_then o e s t u h.done a x y z or h.given k;
    left = one_more a left is;
  }

  -- the next line is shown, which refuses nothing
  pub line_shown : {u : Outputs O E} {y : Bool} (text : List ℕ) (left : Report) → rest ≡ joined_reports (shown_report text) left
      → Reports o e (Ok y) t u (shown_report text) → UnderWay o e x s u whole left
  unfolding shown_report
  line_shown {u} {y} text left is k = goes_on (shown_report text) left is k (sym (ap (λ (v : Bool). x || v) k.value_is ∙ or_false x))

  -- or the step stops on the way
  pub stops_at : {u : Outputs O E} {stop : Stop} (a left : Report) → rest ≡ joined_reports a left → Reports o e (Err stop) t u a
      → Reports o e (Err stop) s u whole
  stops_at {u} {stop} a left is k =
      subst (λ (r : Report). Reports o e (Err stop) s u r) (one_more a left is)
      (reports_stop o e s u (joined_reports h.done a) left stop (reports_then_stop o e s t u h.done a x stop h.given k))

  -- the last of what is left is given by the step that answers
  pub ends_with : {u : Outputs O E} (r : Result Bool Stop) (a : Report) → x ≡ false → rest ≡ a → Reports o e r t u a → Reports o e r s u whole
  ends_with {u} (Ok y) a none is k =
      let all = goes_on {u = u} {y = y} {z = y} a no_report (is ∙ sym (joined_no_report a)) k (sym (ap (λ (v : Bool). v || y) none)) in
      subst (λ (r : Report). Reports o e (Ok y) s u r) (sym (joined_no_report all.done) ∙ all.left) all.given
  ends_with {u} (Err stop) a none is k = stops_at a no_report (is ∙ sym (joined_no_report a)) k

  -- nothing is left
  pub is_given : rest ≡ no_report → Reports o e (Ok x) s t whole
  is_given none =
      subst (λ (r : Report). Reports o e (Ok x) s t r) (sym (joined_no_report h.done) ∙ ap (joined_reports h.done) (sym none) ∙ h.left) h.given

-- ---- What is left of a list

module _ {X : Type 0} (report : X → Report) where
  of_cons : (x : X) (xs : List X) → reports_of report (x ∷ xs) ≡ joined_reports (report x) (reports_of report xs)
  unfolding reports_of all_reports_joined
  of_cons x xs = refl

  of_nil : reports_of report [] ≡ no_report
  unfolding reports_of all_reports_joined
  of_nil = refl

  pub reports_left : (xs : List X) (i : ℕ) (x : X) → i < length xs → x ≡ get_or xs i x
      → reports_of report (drop i xs) ≡ joined_reports (report x) (reports_of report (drop (i + 1) xs))
  reports_left xs i x lt is =
      at_drop_more (reports_of report) xs i x lt
      ∙ ap (λ (y : X). reports_of report (y ∷ drop (i + 1) xs)) (sym is) ∙ of_cons x (drop (i + 1) xs)

  pub no_reports_left : (xs : List X) (i : ℕ) → length xs ≤ i → reports_of report (drop i xs) ≡ no_report
  no_reports_left xs i le = at_drop_all (reports_of report) xs i le ∙ of_nil

-- a text, and the rest of the text
pub shown_append : (a b : List ℕ) → shown_report (a ++ b) ≡ joined_reports (shown_report a) (shown_report b)
unfolding shown_report joined_reports
shown_append a b = ap (λ m. record { marks = m; refused = false }) (said_append Out a b)

pub shown_none : shown_report [] ≡ no_report
unfolding shown_report no_report
shown_none = ap (λ m. record { marks = m; refused = false }) (said_none Out)

-- lines without numbers
module _ {X : Type 0} (line : X → List ℕ) where
  pub texts_left : (xs : List X) (i : ℕ) (x : X) → i < length xs → x ≡ get_or xs i x
      → shown_report (flat_map line (drop i xs)) ≡ joined_reports (shown_report (line x)) (shown_report (flat_map line (drop (i + 1) xs)))
  texts_left xs i x lt is =
      ap shown_report (at_drop_more (flat_map line) xs i x lt
      ∙ ap (λ (y : X). flat_map line (y ∷ drop (i + 1) xs)) (sym is) ∙ flat_map-cons line x (drop (i + 1) xs))
      ∙ shown_append (line x) (flat_map line (drop (i + 1) xs))

  pub no_texts_left : (xs : List X) (i : ℕ) → length xs ≤ i → shown_report (flat_map line (drop i xs)) ≡ no_report
  no_texts_left xs i le = ap shown_report (at_drop_all (flat_map line) xs i le) ∙ shown_none

-- numbered lines
module _ {X : Type 0} (line : ℕ → X → List ℕ) where
  line_cons : (i : ℕ) (x : X) (xs : List X) → numbered_lines line i (x ∷ xs) ≡ line i x ++ numbered_lines line (i + 1) xs
  unfolding numbered_lines
  line_cons i x xs = refl

  line_nil : (i : ℕ) → numbered_lines line i [] ≡ []
  unfolding numbered_lines
  line_nil i = refl

  pub lines_left : (xs : List X) (i : ℕ) (x : X) → i < length xs → x ≡ get_or xs i x
      → shown_report (numbered_lines line i (drop i xs)) ≡ joined_reports (shown_report (line i x)) (shown_report (numbered_lines line (i + 1) (drop (i + 1) xs)))
  lines_left xs i x lt is =
      ap shown_report (at_drop_more (numbered_lines line i) xs i x lt
      ∙ ap (λ (y : X). numbered_lines line i (y ∷ drop (i + 1) xs)) (sym is) ∙ line_cons i x (drop (i + 1) xs))
      ∙ shown_append (line i x) (numbered_lines line (i + 1) (drop (i + 1) xs))

  pub no_lines_left : (xs : List X) (i : ℕ) → length xs ≤ i → shown_report (numbered_lines line i (drop i xs)) ≡ no_report
  no_lines_left xs i le = ap shown_report (at_drop_all (numbered_lines line i) xs i le ∙ line_nil i) ∙ shown_none
