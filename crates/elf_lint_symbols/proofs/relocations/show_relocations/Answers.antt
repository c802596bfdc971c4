use Rattle.std.proofs.Common.{ap, sym, ◌∙◌}
use Rattle.elf_types.specs.declared.records.Shdr.{Shdr}
use Rattle.tool_objects.proofs.ElfSteps.{elf_as}
use Rattle.elf_lint_findings.specs.Findings.{findings_shown}
use Rattle.elf_lint_symbols.proofs.RelocationLemmas.{relas_found, rels_found}
use Rattle.elf_lint_symbols.proofs.relocations.show_relocations.Goals as goal

pub returns-then-stype-eq-SHT_RELA : goal.returns-then-stype-eq-SHT_RELA
returns-then-stype-eq-SHT_RELA g c =
    let o = c.args.elf.now.o in
    let r = c.args.r in
    let by = c.args.by.now in
    let here = ap (λ (h : Shdr). h.stype) c.section_header-stype.ensures in
    elf_as g.S.Source g.O.Sink g.E.Sink _ _ _ c.args.elf.now _ c.args.outputs.now _
    (λ told. ap (findings_shown by.name.now) (relas_found by.number by.text.now o r.section.0 r.bound c.requires.looked c.requires.bound (sym here ∙ c.if-stype-eq-SHT_RELA.true))) c.each_relocation.ensures

pub returns-else-stype-eq-SHT_RELA : goal.returns-else-stype-eq-SHT_RELA
returns-else-stype-eq-SHT_RELA g c =
    let o = c.args.elf.now.o in
    let r = c.args.r in
    let by = c.args.by.now in
    let here = ap (λ (h : Shdr). h.stype) c.section_header-stype.ensures in
    elf_as g.S.Source g.O.Sink g.E.Sink _ _ _ c.args.elf.now _ c.args.outputs.now _
    (λ told. ap (findings_shown by.name.now) (rels_found by.number by.text.now o r.section.0 r.bound c.requires.looked c.requires.bound (λ e. c.if-stype-eq-SHT_RELA.false (here ∙ e)))) c.each_relocation-else-stype-eq-SHT_RELA.ensures
