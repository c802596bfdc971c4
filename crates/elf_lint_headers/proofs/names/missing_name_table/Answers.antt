use Rattle.tool_objects.proofs.ElfSteps.{elf_left, elf_says}
use Rattle.elf_lint_findings.specs.Findings.{findings_shown}
use Rattle.elf_lint_headers.specs.Names.{missing_name_table}
use Rattle.elf_lint_headers.proofs.names.missing_name_table.Goals as goal

pub returns : goal.returns
unfolding missing_name_table
returns g c =
    elf_says g.S.Source g.O.Sink g.E.Sink (λ o. findings_shown c.args.name.now (missing_name_table o)) _ c.args.elf.now _ c.args.outputs.now _ (elf_left g.S.Source c.args.elf.now)
    (λ told. rw (← c.lacks_name_table-lacks.ensures) c.find_if.ensures.reports) c.find_if.ensures.leaves
