use Rattle.std.proofs.Common.{drop}
use Rattle.std.specs.List.{flat_map, enumerate_from}
use Rattle.tool_objects.specs.Steps.{ElfUnderWay}
use Rattle.elf_lint_findings.specs.declared.places.Place.TheVariants.{Item}
use Rattle.elf_lint_findings.specs.Findings.{at_items, finding, findings_shown, found_if}
use Rattle.elf_lint_findings.specs.Looking.{section_symbols}
use Rattle.elf_lint_symbols.proofs.by_symbol.each_symbol.Given as goal

abbrev pub invariant-loop-i : goal.invariant-loop-i
invariant-loop-i g l =
    let r = g.R.SymbolRule in
    let by = l.by in
    let s = l.t.section.0 in
    ElfUnderWay g.S.Source g.O.Sink g.E.Sink l.found l.initial.elf l.elf l.initial.outputs l.outputs
    (λ o. findings_shown by.name.now (at_items by.number by.text.now s (r.finds o s) (section_symbols o s)))
    (λ o. findings_shown by.name.now (flat_map (λ row. found_if (r.finds o s row.0 row.1) (finding by.number (Item s row.0) by.text.now)) (drop l.i (enumerate_from 0 (section_symbols o s)))))
