use Rattle.std.proofs.Common.{sym}
use Rattle.std.proofs.lemmas.Result.{err_from_is_err_and}
use Rattle.elf_lint_findings.proofs.tool_objects.ElfSteps.{elf_as, elf_left, elf_says, elf_stop}
use Rattle.tool_output.specs.Reports.{shown_report, joined_reports}
use Rattle.elf_lint_findings.specs.Findings.{findings_shown, no_findings_line}
use Rattle.elf_lint.specs.Rules.{findings, lint_report}
use Rattle.elf_lint.proofs.RuleLemmas.{report_as, report_some, report_none, rest_of, then_another}
use Rattle.elf_lint.proofs.tool.LintToolObjectTool.show.Goals as goal

pub returns-in_err-found-clause-reports : goal.returns-in_err-found-clause-reports
unfolding lint_report findings
returns-in_err-found-clause-reports g c =
    let name = c.args.name.now in
    let p = err_from_is_err_and c.from_residual.result c.from_residual.ensures.1 in
    rw (p.1, p.2) (elf_as g.S.Source g.O.Sink g.E.Sink (λ o. joined_reports (findings_shown name (findings o)) (rest_of name (findings o))) (lint_report name) _ c.args.elf.now _ c.args.outputs.now _
    (λ told. report_as name (findings c.args.elf.now.o))
    (elf_stop g.S.Source g.O.Sink g.E.Sink (λ o. findings_shown name (findings o)) (λ o. rest_of name (findings o)) c.args.elf.now _ c.args.outputs.now _ _ c.in_err-found.ensures))

pub returns-then-found-clause-reports : goal.returns-then-found-clause-reports
unfolding lint_report findings
returns-then-found-clause-reports g c =
    let name = c.args.name.now in
    let h = rw c.if-found.true at c.in_ok-found.ensures in
    elf_as g.S.Source g.O.Sink g.E.Sink (λ o. findings_shown name (findings o)) (lint_report name) _ c.args.elf.now _ c.args.outputs.now _
    (λ told. report_some name (findings c.args.elf.now.o) (sym (h.reports told).value_is)) h

pub returns-clause-reports : goal.returns-clause-reports
unfolding lint_report findings
returns-clause-reports g c =
    let name = c.args.name.now in
    let line = shown_report (no_findings_line name) in
    let h = rw c.if-found.false at c.in_ok-found.ensures in
    elf_as g.S.Source g.O.Sink g.E.Sink (λ o. joined_reports (findings_shown name (findings o)) line) (lint_report name) _ c.args.elf.now _ c.args.outputs.now _
    (λ told. sym (report_none name (findings c.args.elf.now.o) (sym (h.reports told).value_is)))
    (then_another g.S.Source g.O.Sink g.E.Sink (λ o. findings_shown name (findings o)) (λ o. line) _ c.args.elf.now _ c.args.outputs.now _ _ h
    (elf_says g.S.Source g.O.Sink g.E.Sink (λ o. line) _ _ _ _ _ (elf_left g.S.Source _) (λ told. c.show.ensures.reports) c.show.ensures.leaves))
