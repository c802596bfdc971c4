use Rattle.std.proofs.Common.{ap, ◌∙◌}
use Rattle.tool_objects.specs.elf_object.Answers.{items_at, lend_refusal}
use Rattle.tool_objects.proofs.ElfSteps.{elf_left, elf_as, elf_says_none}
use Rattle.elf_lint_findings.specs.Findings.{at_items, findings_shown}
use Rattle.elf_lint_findings.specs.Looking.{if_lent}
use Rattle.elf_lint_findings.proofs.FindingLemmas.{no_findings}
use Rattle.elf_lint_findings.proofs.LentLemmas.{lent, lent_count, no_count}
use Rattle.elf_lint_symbols.specs.Relocations.{passes_bound}
use Rattle.elf_lint_symbols.proofs.RelocationLemmas.{items_mapped, no_items}
use Rattle.elf_lint_symbols.proofs.by_relocation.each_relocation.Goals as goal

pub each_of_section-requires-clause-passed : goal.each_of_section-requires-clause-passed
each_of_section-requires-clause-passed g c =
    (lent_count c.args.elf.now.o c.args.r.section.0 g.T.Listed.kind g.T.Listed.list_of g.met.T.RelocationItem.counted_in c.in-Ok.count c.in-Ok.ensures.answer).0

pub each_of_section-requires-clause-count : goal.each_of_section-requires-clause-count
each_of_section-requires-clause-count g c =
    (lent_count c.args.elf.now.o c.args.r.section.0 g.T.Listed.kind g.T.Listed.list_of g.met.T.RelocationItem.counted_in c.in-Ok.count c.in-Ok.ensures.answer).1

pub returns-in-Ok : goal.returns-in-Ok
returns-in-Ok g c =
    let by = c.args.by.now in
    let o = c.args.elf.now.o in
    let s = c.args.r.section.0 in
    let symbol = g.T.RelocationItem.symbol in
    let xs = g.T.Listed.list_of (items_at o s 0) in
    let count = lent_count o s g.T.Listed.kind g.T.Listed.list_of g.met.T.RelocationItem.counted_in c.in-Ok.count c.in-Ok.ensures.answer in
    elf_as g.S.Source g.O.Sink g.E.Sink _ _ _ c.args.elf.now _ c.args.outputs.now _
    (λ told. ap (findings_shown by.name.now)
    (items_mapped by.number by.text.now s (λ i y. passes_bound c.args.r.bound y) symbol (if_lent (lend_refusal o g.T.Listed.kind s 0) xs)
    ∙ ap (at_items by.number by.text.now s (λ i x. passes_bound c.args.r.bound (symbol x))) (lent (lend_refusal o g.T.Listed.kind s 0) xs count.0)))
    c.each_of_section.ensures

pub returns-in-Err : goal.returns-in-Err
returns-in-Err g c =
    let by = c.args.by.now in
    let o = c.args.elf.now.o in
    let s = c.args.r.section.0 in
    let xs = g.T.Listed.list_of (items_at o s 0) in
    elf_says_none g.S.Source g.O.Sink g.E.Sink _ c.args.elf.now _ c.args.outputs.now (elf_left g.S.Source c.args.elf.now)
    (λ told. ap (findings_shown by.name.now)
    (no_items by.number by.text.now s (λ i y. passes_bound c.args.r.bound y) g.T.RelocationItem.symbol (if_lent (lend_refusal o g.T.Listed.kind s 0) xs)
    (no_count o s g.T.Listed.kind g.T.Listed.list_of _ c.in-Err.ensures.answer))
    ∙ no_findings by.name.now)
