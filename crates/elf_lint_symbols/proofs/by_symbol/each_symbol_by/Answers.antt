use Rattle.std.proofs.Common.{sym}
use Rattle.tool_objects.specs.elf_object.Due.{all_sections}
use Rattle.tool_objects.proofs.ElfSteps.{elf_as}
use Rattle.elf_lint_findings.proofs.FindingLemmas.{findings_of}
use Rattle.elf_lint_symbols.specs.Symbols.{at_symbols, at_symbols_of}
use Rattle.elf_lint_symbols.proofs.by_symbol.each_symbol_by.Goals as goal

pub returns : goal.returns
unfolding at_symbols
returns g c =
    let r = g.R.SymbolRule in
    let o = c.args.elf.now.o in
    elf_as g.S.Source g.O.Sink g.E.Sink _ _ _ c.args.elf.now _ c.args.outputs.now _
    (λ told. sym (findings_of c.args.name.now (at_symbols_of c.args.number c.args.text.now r.finds o) (all_sections o))) c.each_section.ensures
