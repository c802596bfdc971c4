use Rattle.std.proofs.Common.{sym}
use Rattle.tool_objects.specs.elf_object.Due.{all_sections}
use Rattle.tool_objects.proofs.ElfSteps.{elf_as}
use Rattle.elf_lint_findings.proofs.FindingLemmas.{findings_of}
use Rattle.elf_lint_symbols.specs.Symbols.{symbol_0_of, symbol_0_in_use}
use Rattle.elf_lint_symbols.proofs.symbols.symbol_0_in_use.Goals as goal

pub returns : goal.returns
unfolding symbol_0_in_use
returns g c =
    let o = c.args.elf.now.o in
    elf_as g.S.Source g.O.Sink g.E.Sink _ _ _ c.args.elf.now _ c.args.outputs.now _
    (λ told. sym (findings_of c.args.name.now (symbol_0_of o) (all_sections o))) c.each_section.ensures
