-- What is said of findings, one after another.
use Rattle.std.proofs.Common.{◌≡◌, ◌++◌, ◌+◌, ◌<◌, ◌≤◌, true, false, ℕ, List, [], ◌∷◌, length, drop, get_or, refl, sym, ap, ◌∙◌, arith}
use Rattle.std.specs.List.{flat_map, enumerate_from, range_with_len}
use Rattle.std.proofs.lemmas.List.{at_drop_more, at_drop_all}
use Rattle.std.proofs.lemmas.List.Concat.{flat_map-cons}
use Rattle.std.proofs.lemmas.List.FromFn.{length-enumerate_from, get_or-enumerate_from, length-range_with_len, get_or-range_with_len}
use Rattle.tool_objects.specs.tool_output.Names.{Name}
use Rattle.tool_objects.specs.tool_output.Reports.{Report, no_report, found, joined_reports, all_reports_joined, reports_of}
use Rattle.tool_objects.proofs.tool_output.ReportLemmas.{joined_assoc, no_report_joined, joined_no_report}
use Rattle.elf_lint_findings.specs.Findings.{Finding, found_if, finding_line, findings_shown}

module _ (name : Name) where
  pub no_findings : findings_shown name [] ≡ no_report
  unfolding findings_shown reports_of all_reports_joined
  no_findings = refl

  finding_then : (f : Finding) (fs : List Finding) → findings_shown name (f ∷ fs) ≡ joined_reports (found (finding_line name f)) (findings_shown name fs)
  unfolding findings_shown reports_of all_reports_joined
  finding_then f fs = refl

  pub one_finding : (f : Finding) → findings_shown name (f ∷ []) ≡ found (finding_line name f)
  one_finding f = finding_then f [] ∙ ap (joined_reports (found (finding_line name f))) no_findings ∙ joined_no_report (found (finding_line name f))

  -- a test that does not hold
  pub none_if : (f : Finding) → findings_shown name (found_if false f) ≡ no_report
  none_if f = no_findings

  pub findings_append : (a b : List Finding) → findings_shown name (a ++ b) ≡ joined_reports (findings_shown name a) (findings_shown name b)
  findings_append [] b = sym (ap (λ (r : Report). joined_reports r (findings_shown name b)) no_findings ∙ no_report_joined (findings_shown name b))
  findings_append (f ∷ a) b =
      finding_then f (a ++ b) ∙ ap (joined_reports (found (finding_line name f))) (findings_append a b)
      ∙ sym (joined_assoc (found (finding_line name f)) (findings_shown name a) (findings_shown name b))
      ∙ ap (λ (r : Report). joined_reports r (findings_shown name b)) (sym (finding_then f a))

  -- ---- Whether something was found

  pub found_some : (f : Finding) (fs : List Finding) → (findings_shown name (f ∷ fs)).refused ≡ true
  unfolding findings_shown reports_of all_reports_joined joined_reports found
  found_some f fs = refl

  pub found_none : (findings_shown name []).refused ≡ false
  unfolding findings_shown reports_of all_reports_joined no_report
  found_none = refl

  -- the answer is false exactly where there are none
  pub none_where : (fs : List Finding) → (findings_shown name fs).refused ≡ false → fs ≡ []
  none_where [] is = refl
  none_where (f ∷ fs) is = let some = found_some f fs in cc

  -- ---- Of a list

  module _ {X : Type 0} (f : X → List Finding) where
    of_cons : (x : X) (xs : List X) → findings_shown name (flat_map f (x ∷ xs)) ≡ joined_reports (findings_shown name (f x)) (findings_shown name (flat_map f xs))
    of_cons x xs = ap (findings_shown name) (flat_map-cons f x xs) ∙ findings_append (f x) (flat_map f xs)

    report_cons : (x : X) (xs : List X) → reports_of (λ (y : X). findings_shown name (f y)) (x ∷ xs) ≡ joined_reports (findings_shown name (f x)) (reports_of (λ (y : X). findings_shown name (f y)) xs)
    unfolding reports_of all_reports_joined
    report_cons x xs = refl

    report_nil : reports_of (λ (y : X). findings_shown name (f y)) [] ≡ no_report
    unfolding reports_of all_reports_joined
    report_nil = refl

    -- the reports on the findings of each are the report on all
    pub findings_of : (xs : List X) → reports_of (λ (x : X). findings_shown name (f x)) xs ≡ findings_shown name (flat_map f xs)
    findings_of [] = report_nil ∙ sym no_findings
    findings_of (x ∷ xs) = report_cons x xs ∙ ap (joined_reports (findings_shown name (f x))) (findings_of xs) ∙ sym (of_cons x xs)

    -- the findings of what is left
    pub findings_left : (xs : List X) (i : ℕ) (x : X) → i < length xs → x ≡ get_or xs i x
        → findings_shown name (flat_map f (drop i xs)) ≡ joined_reports (findings_shown name (f x)) (findings_shown name (flat_map f (drop (i + 1) xs)))
    findings_left xs i x lt is =
        at_drop_more (λ (l : List X). findings_shown name (flat_map f l)) xs i x lt
        ∙ ap (λ (y : X). findings_shown name (flat_map f (y ∷ drop (i + 1) xs))) (sym is)
        ∙ of_cons x (drop (i + 1) xs)

    pub no_findings_left : (xs : List X) (i : ℕ) → length xs ≤ i → findings_shown name (flat_map f (drop i xs)) ≡ no_report
    no_findings_left xs i le = at_drop_all (λ (l : List X). findings_shown name (flat_map f l)) xs i le ∙ no_findings

  -- ---- Of numbers from 0 on

  module _ (f : ℕ → List Finding) (n i : ℕ) where
    pub numbers_left : i < n
        → findings_shown name (flat_map f (drop i (range_with_len 0 n)))
        ≡ joined_reports (findings_shown name (f i))
        (findings_shown name (flat_map f (drop (i + 1) (range_with_len 0 n))))
    numbers_left lt =
        findings_left f (range_with_len 0 n) i i (omega (arith, length-range_with_len 0 n))
        (omega (arith, get_or-range_with_len 0 n i i lt))

    pub no_numbers_left : n ≤ i
        → findings_shown name (flat_map f (drop i (range_with_len 0 n))) ≡ no_report
    no_numbers_left le =
        no_findings_left f (range_with_len 0 n) i (omega (arith, length-range_with_len 0 n))

  -- ---- Of a list whose items are numbered

  module _ {X : Type 0} (f : ℕ × X → List Finding) (xs : List X) (i : ℕ) where
    pub rows_left : (x : X) → i < length xs → x ≡ get_or xs i x
        → findings_shown name (flat_map f (drop i (enumerate_from 0 xs)))
        ≡ joined_reports (findings_shown name (f (i, x))) (findings_shown name (flat_map f (drop (i + 1) (enumerate_from 0 xs))))
    rows_left x lt is =
        findings_left f (enumerate_from 0 xs) i (i, x) (omega (arith, length-enumerate_from 0 xs))
        (let at : 0 + i ≡ i = omega arith in
        sym (get_or-enumerate_from 0 xs i (i, x) lt ∙ ap {B = ℕ × X} (λ (n : ℕ). (n, get_or xs i x)) at ∙ ap {B = ℕ × X} (λ (y : X). (i, y)) (sym is)))

    pub no_rows_left : length xs ≤ i → findings_shown name (flat_map f (drop i (enumerate_from 0 xs))) ≡ no_report
    no_rows_left le = no_findings_left f (enumerate_from 0 xs) i (omega (arith, length-enumerate_from 0 xs))
