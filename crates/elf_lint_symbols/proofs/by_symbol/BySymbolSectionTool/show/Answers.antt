use Rattle.std.proofs.Common.{ap, ◌∙◌}
use Rattle.elf_types.specs.declared.records.ScnId.{ScnId}
use Rattle.tool_objects.proofs.ElfSteps.{elf_left, elf_as, elf_says_none}
use Rattle.elf_lint_findings.specs.Findings.{findings_shown}
use Rattle.elf_lint_findings.proofs.FindingLemmas.{no_findings}
use Rattle.elf_lint_symbols.proofs.TableLemmas.{table_found, table_none}
use Rattle.elf_lint_symbols.proofs.by_symbol.BySymbolSectionTool.show.Goals as goal

pub returns-in-Some : goal.returns-in-Some
returns-in-Some g c =
    let r = g.R.SymbolRule in
    let by = c.args.self.now in
    elf_as g.S.Source g.O.Sink g.E.Sink _ _ _ c.args.elf.now _ c.args.outputs.now _
    (λ told. ap (findings_shown by.name.now) (table_found by.number by.text.now r.finds c.args.elf.now.o c.args.s.0 c.in-Some.t.section.0 (ap (λ (x : ScnId). x.0) c.in-Some.ensures.section) c.in-Some.ensures.is.looked))
    c.show_table.ensures

pub returns-in-None : goal.returns-in-None
returns-in-None g c =
    let r = g.R.SymbolRule in
    let by = c.args.self.now in
    elf_says_none g.S.Source g.O.Sink g.E.Sink _ c.args.elf.now _ c.args.outputs.now (elf_left g.S.Source c.args.elf.now)
    (λ told. ap (findings_shown by.name.now) (table_none by.number by.text.now r.finds c.args.elf.now.o c.args.s.0 c.in-None.ensures.none) ∙ no_findings by.name.now)
