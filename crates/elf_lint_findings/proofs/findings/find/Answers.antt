use Rattle.elf_lint_findings.specs.Findings.{finding}
use Rattle.elf_lint_findings.proofs.FindingLemmas.{one_finding}
use Rattle.elf_lint_findings.proofs.findings.find.Goals as goal

pub returns-clause-reports : goal.returns-clause-reports
returns-clause-reports g c =
    rw (one_finding c.args.name.now (finding c.args.number c.args.place (g.T.Line.text c.args.text))) c.find.ensures.reports
