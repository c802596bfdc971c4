use Rattle.std.proofs.Common.{arith}
use Rattle.tool_objects.specs.elf_object.Due.{all_sections}
use Rattle.tool_objects.proofs.ElfSteps.{elf_left, elf_says, elf_over}
use Rattle.elf_lint_findings.specs.Findings.{at_sections, findings_shown}
use Rattle.elf_lint_findings.proofs.by_header.each_header_by.Goals as goal

pub returns : goal.returns
returns g c =
    let finds = g.R.HeaderRule.finds c.args.rule.now in
    let elf = c.args.elf.now in
    elf_over g.S.Source g.O.Sink g.E.Sink 0 1
    (λ o. findings_shown c.args.name.now
    (at_sections c.args.number c.args.text.now (finds o) (all_sections o)))
    _ elf _ c.args.outputs.now _ (omega arith)
    (elf_says g.S.Source g.O.Sink g.E.Sink _ _ elf _ c.args.outputs.now _
    (elf_left g.S.Source elf) (λ told. c.each_header.ensures.reports)
    c.each_header.ensures.leaves)
