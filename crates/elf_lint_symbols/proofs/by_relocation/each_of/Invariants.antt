use Rattle.std.proofs.Common.{drop}
use Rattle.std.specs.List.{flat_map, enumerate_from}
use Rattle.tool_objects.specs.elf_object.Answers.{items_at}
use Rattle.tool_objects.specs.Steps.{ElfUnderWay}
use Rattle.elf_lint_findings.specs.declared.places.Place.TheVariants.{Item}
use Rattle.elf_lint_findings.specs.Findings.{at_items, finding, findings_shown, found_if}
use Rattle.elf_lint_symbols.specs.Relocations.{passes_bound}
use Rattle.elf_lint_symbols.proofs.by_relocation.each_of.Given as goal

abbrev pub invariant-loop-i : goal.invariant-loop-i
invariant-loop-i g l =
    let s = l.r.section.0 in
    let symbol = g.T.RelocationItem.symbol in
    let list_of = g.T.Listed.list_of in
    ElfUnderWay g.S.Source g.O.Sink g.E.Sink l.found l.initial.elf l.elf l.initial.outputs l.outputs
    (λ o. findings_shown l.by.name.now (at_items l.by.number l.by.text.now s (λ i x. passes_bound l.r.bound (symbol x)) (list_of (items_at o s 0))))
    (λ o. findings_shown l.by.name.now (flat_map (λ row. found_if (passes_bound l.r.bound (symbol row.1)) (finding l.by.number (Item s row.0) l.by.text.now)) (drop l.i (enumerate_from 0 (list_of (items_at o s 0))))))
