use Rattle.std.proofs.Common.{ap, ◌∙◌}
use Rattle.elf_types.specs.declared.records.ScnId.{ScnId}
use Rattle.tool_objects.proofs.ElfSteps.{elf_left, elf_as, elf_says_none}
use Rattle.elf_lint_findings.specs.Findings.{findings_shown}
use Rattle.elf_lint_findings.proofs.FindingLemmas.{no_findings}
use Rattle.elf_lint_symbols.proofs.TableLemmas.{symbol_0_looked, symbol_0_passed}
use Rattle.elf_lint_symbols.proofs.symbols.Symbol0SectionTool.show.Goals as goal

pub returns-in-Some : goal.returns-in-Some
returns-in-Some g c =
    elf_as g.S.Source g.O.Sink g.E.Sink _ _ _ c.args.elf.now _ c.args.outputs.now _
    (λ told. ap (findings_shown c.args.self.now.name.now) (symbol_0_looked c.args.elf.now.o c.args.s.0 c.in-Some.t.section.0 (ap (λ (x : ScnId). x.0) c.in-Some.ensures.section) c.in-Some.ensures.is.looked))
    c.show_symbol_0.ensures

pub returns-in-None : goal.returns-in-None
returns-in-None g c =
    let name = c.args.self.now.name.now in
    elf_says_none g.S.Source g.O.Sink g.E.Sink _ c.args.elf.now _ c.args.outputs.now (elf_left g.S.Source c.args.elf.now)
    (λ told. ap (findings_shown name) (symbol_0_passed c.args.elf.now.o c.args.s.0 c.in-None.ensures.none) ∙ no_findings name)
