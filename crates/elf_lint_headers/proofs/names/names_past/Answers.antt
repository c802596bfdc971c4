use Rattle.std.proofs.Common.{ap}
use Rattle.std.specs.Prelude.{codes}
use Rattle.tool_objects.proofs.ElfSteps.{elf_as}
use Rattle.elf_lint_findings.specs.Findings.{findings_shown}
use Rattle.elf_lint_headers.specs.Names.{unreadable_section_names}
use Rattle.elf_lint_headers.proofs.NameLemmas.{names_found}
use Rattle.elf_lint_headers.proofs.names.names_past.Goals as goal

pub returns : goal.returns
unfolding unreadable_section_names
returns g c =
    elf_as g.S.Source g.O.Sink g.E.Sink _ _ _ c.args.elf.now _ c.args.outputs.now _
    (λ told. ap (findings_shown c.args.name.now)
    (names_found c.args.elf.now.o c.requires.has c.args.end (c.requires.end told) 5
    (codes "name cannot be read")))
    c.each_header_by.ensures
