use Rattle.std.proofs.Common.{List, ap, sym, subst}
use Rattle.tool_objects.specs.elf_object.Answers.{items_at}
use Rattle.tool_output.specs.Reports.{Reports}
use Rattle.tool_objects.proofs.ElfSteps.{elf_left, elf_says}
use Rattle.elf_lint_findings.specs.Findings.{Finding, at_items, findings_shown}
use Rattle.elf_lint_symbols.specs.Relocations.{passes_bound}
use Rattle.elf_lint_symbols.proofs.by_relocation.each_loaded.Goals as goal

pub each_at_hand-requires : goal.each_at_hand-requires
each_at_hand-requires g c = c.in-Some.ensures.whole

pub returns-in-Some : goal.returns-in-Some
returns-in-Some g c =
    let by = c.args.by.now in
    let bound = c.args.r.bound in
    let s = c.args.r.section.0 in
    let symbol = g.T.RelocationItem.symbol in
    elf_says g.S.Source g.O.Sink g.E.Sink
    (λ m. findings_shown by.name.now
    (at_items by.number by.text.now s (λ i x. passes_bound bound (symbol x))
    (g.T.Listed.list_of (items_at m s 0))))
    _ c.args.elf.now _ c.args.outputs.now _ (elf_left g.S.Source c.args.elf.now)
    (λ told. subst
    (λ (l : List Finding). Reports g.O.Sink g.E.Sink c.each_at_hand.result c.args.outputs.now
    c.each_at_hand.new.outputs (findings_shown by.name.now l))
    (ap (at_items by.number by.text.now s (λ i x. passes_bound bound (symbol x)))
    (sym (c.in-Some.ensures.items told)))
    c.each_at_hand.ensures.reports)
    c.each_at_hand.ensures.leaves
