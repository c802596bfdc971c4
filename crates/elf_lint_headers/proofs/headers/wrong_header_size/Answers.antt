use Rattle.tool_objects.proofs.ElfSteps.{elf_left, elf_says}
use Rattle.elf_lint_findings.specs.Findings.{findings_shown}
use Rattle.elf_lint_headers.specs.Headers.{wrong_header_size}
use Rattle.elf_lint_headers.proofs.headers.wrong_header_size.Goals as goal

pub returns : goal.returns
unfolding wrong_header_size
returns g c =
    elf_says g.S.Source g.O.Sink g.E.Sink (λ o. findings_shown c.args.name.now (wrong_header_size o)) _ c.args.elf.now _ c.args.outputs.now _ (elf_left g.S.Source c.args.elf.now)
    (λ told. rw (← c.has_wrong_size-wrong.ensures) c.find_if.ensures.reports) c.find_if.ensures.leaves
