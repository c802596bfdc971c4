use Rattle.tool_objects.proofs.ElfSteps.{elf_left, elf_says}
use Rattle.elf_lint_findings.specs.Findings.{findings_shown}
use Rattle.elf_lint_headers.specs.Headers.{segments_outside_the_file}
use Rattle.elf_lint_headers.proofs.headers.segments_outside_the_file.Goals as goal

pub returns : goal.returns
unfolding segments_outside_the_file
returns g c =
    elf_says g.S.Source g.O.Sink g.E.Sink (λ o. findings_shown c.args.name.now (segments_outside_the_file o)) _ c.args.elf.now _ c.args.outputs.now _ (elf_left g.S.Source c.args.elf.now)
    (λ told. c.each_segment.ensures.reports) c.each_segment.ensures.leaves
