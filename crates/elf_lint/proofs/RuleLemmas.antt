-- What is said of all findings.
use Rattle.std.proofs.Common.{◌≡◌, ◌+◌, ◌<◌, ◌≤◌, ℕ, Bool, true, false, List, [], ◌∷◌, length, take, Result, Ok, Err, refl, sym, ap, ◌∙◌, arith}
use Rattle.std.proofs.lemmas.List.{length-take}
use Rattle.elf_outside.specs.declared.sources.Source.{Ghosts as SourceGhosts}
use Rattle.elf_outside.specs.declared.sinks.Sink.{Ghosts as SinkGhosts}
use Rattle.symbol_lookup.specs.elf_object.Object.{Object}
use Rattle.symbol_lookup.specs.elf_descriptor.State.{State}
use Rattle.tool_output.specs.declared.stops.Stop.{Stop}
use Rattle.tool_output.specs.declared.outputs.Outputs.{Outputs}
use Rattle.tool_output.specs.Names.{Name}
use Rattle.tool_output.specs.Reports.{Report, shown_report, no_report, joined_reports}
use Rattle.elf_lint_findings.specs.tool_objects.Steps.{ReportsOver, ReportsElf}
use Rattle.elf_lint_findings.proofs.tool_objects.ElfSteps.{elf_over, elf_failed, elf_then, elf_then_stop}
use Rattle.elf_lint_findings.specs.Findings.{Finding, findings_shown, findings_report, no_findings_line}
use Rattle.elf_lint_findings.proofs.FindingLemmas.{no_findings, found_none, none_where}
use Rattle.tool_output.proofs.ReportLemmas.{no_report_joined, joined_no_report}

-- of findings
pub report_some : (name : Name) (fs : List Finding) → (findings_shown name fs).refused ≡ true → findings_report name fs ≡ findings_shown name fs
unfolding findings_report
report_some name [] is = let none = found_none name in cc
report_some name (f ∷ fs) is = refl

-- where there are none
pub report_none : (name : Name) (fs : List Finding) → (findings_shown name fs).refused ≡ false → joined_reports (findings_shown name fs) (shown_report (no_findings_line name)) ≡ findings_report name fs
unfolding findings_report
report_none name fs is =
    let none = none_where name fs is in
    let line = shown_report (no_findings_line name) in
    ap (λ (l : List Finding). joined_reports (findings_shown name l) line) none ∙ ap (λ (r : Report). joined_reports r line) (no_findings name) ∙ no_report_joined line ∙ sym (ap (findings_report name) none)

-- what follows the lines of the findings
abbrev pub rest_of : Name → List Finding → Report
rest_of name [] = shown_report (no_findings_line name)
rest_of name (f ∷ fs) = no_report

pub report_as : (name : Name) (fs : List Finding) → findings_report name fs ≡ joined_reports (findings_shown name fs) (rest_of name fs)
unfolding findings_report
report_as name [] = let line = shown_report (no_findings_line name) in sym (ap (λ (r : Report). joined_reports r line) (no_findings name) ∙ no_report_joined line)
report_as name (f ∷ fs) = sym (joined_no_report (findings_shown name (f ∷ fs)))

-- a report that refuses nothing, and then another, which makes no pass
pub then_another : {S O E : Type 0} {n : ℕ} (s : SourceGhosts S) (o : SinkGhosts O)
    (e : SinkGhosts E) (p q : Object → Report) (r : Result Bool Stop) (a b : State S)
    (t u v : Outputs O E) → ReportsOver s o e n p (Ok false) a b t u
    → ReportsElf s o e q r b b u v → ReportsOver s o e n (λ m. joined_reports (p m) (q m)) r a b t v
then_another {S} {O} {E} {n} s o e p q (Ok y) a b t u v h k =
    elf_over s o e (n + 0) n _ _ a b t v (omega arith)
    (elf_then s o e p q a b b t u v false y y refl h k)
then_another {S} {O} {E} {n} s o e p q (Err stop) a b t u v h k =
    elf_failed s o e _ stop a b t v (elf_then_stop s o e p q a b b t u v false stop h k)

-- ---- The passes of rules, one after another

-- of one rule more
pub one_more : {X : Type 0} (l : List X) (i : ℕ) → i < length l
    → length (take i l) + 1 ≤ length (take (i + 1) l)
one_more l i lt = omega (arith, length-take i l, length-take (i + 1) l, lt)

-- of the first rules no more than of all
pub no_more : {X : Type 0} (l : List X) (i : ℕ) → length (take i l) ≤ length l
no_more l i = omega (arith, length-take i l)
