use Rattle.elf_lint_findings.specs.Findings.{finding}
use Rattle.elf_lint_findings.proofs.FindingLemmas.{none_if}
use Rattle.tool_objects.proofs.tool_output.ReportLemmas.{reports_none}
use Rattle.elf_lint_findings.proofs.findings.find_if.Goals as goal

pub returns-else-holds-clause-reports : goal.returns-else-holds-clause-reports
returns-else-holds-clause-reports g c =
    rw (c.if-holds.false, none_if c.args.name.now (finding c.args.number c.args.place c.args.text.now)) (reports_none g.O.Sink g.E.Sink c.args.outputs.now)
