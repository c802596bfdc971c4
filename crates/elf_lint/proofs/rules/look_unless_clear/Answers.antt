use Rattle.std.proofs.Common.{ap, sym, ◌∙◌, arith}
use Rattle.elf_lint_findings.proofs.tool_objects.ElfSteps.{elf_left, elf_over, elf_says_none}
use Rattle.elf_lint_findings.specs.Findings.{findings_shown}
use Rattle.elf_lint_findings.proofs.FindingLemmas.{no_findings}
use Rattle.elf_lint.specs.Rules.{finds}
use Rattle.elf_lint.proofs.rules.look_unless_clear.Goals as goal

pub returns-then-clears : goal.returns-then-clears
returns-then-clears g c =
    let name = c.args.name.now in
    let elf = c.args.elf.now in
    elf_over g.S.Source g.O.Sink g.E.Sink 0 1 (λ o. findings_shown name (finds c.args.rule o)) _
    elf _ c.args.outputs.now _ (omega arith)
    (elf_says_none g.S.Source g.O.Sink g.E.Sink (λ o. findings_shown name (finds c.args.rule o))
    elf _ c.args.outputs.now (elf_left g.S.Source elf)
    (λ told. ap (findings_shown name)
    (c.requires told c.args.rule (sym c.clears.ensures ∙ c.if-clears.true))
    ∙ no_findings name))
