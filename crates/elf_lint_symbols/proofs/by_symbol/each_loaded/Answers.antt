use Rattle.std.proofs.Common.{List, ap, sym, ◌∙◌, subst}
use Rattle.elf_types.specs.declared.records.Kind.TheVariants as kinds
use Rattle.elf_types.specs.declared.records.Sym.{Sym}
use Rattle.tool_objects.specs.elf_object.Answers.{syms_of}
use Rattle.tool_output.specs.Reports.{Reports}
use Rattle.tool_objects.proofs.ElfSteps.{elf_left, elf_says}
use Rattle.tool_objects.specs.AtHand.Items.{held_items}
use Rattle.elf_lint_findings.specs.Findings.{Finding, at_items, findings_shown}
use Rattle.elf_lint_findings.specs.Looking.{section_symbols}
use Rattle.elf_lint_findings.proofs.LentLemmas.{symbols_are}
use Rattle.elf_lint_symbols.proofs.ScanLemmas.{same_tests}
use Rattle.elf_lint_symbols.proofs.by_symbol.each_loaded.Goals as goal

pub each_at_hand-requires : goal.each_at_hand-requires
each_at_hand-requires g c = c.in-Some.ensures.are.whole

pub returns-in-Some : goal.returns-in-Some
returns-in-Some g c =
    let r = g.R.SymbolRule in
    let by = c.args.by.now in
    let o = c.args.elf.now.o in
    let t = c.args.t in
    let s = t.section.0 in
    let items = held_items kinds.Sym syms_of c.in-Some.items in
    elf_says g.S.Source g.O.Sink g.E.Sink
    (λ m. findings_shown by.name.now
    (at_items by.number by.text.now s (r.finds m s) (section_symbols m s)))
    _ c.args.elf.now _ c.args.outputs.now _ (elf_left g.S.Source c.args.elf.now)
    (λ told. subst
    (λ (l : List Finding). Reports g.O.Sink g.E.Sink c.each_at_hand.result c.args.outputs.now
    c.each_at_hand.new.outputs (findings_shown by.name.now l))
    (same_tests by.number by.text.now s (r.holds t c.args.end) (r.finds o s)
    (g.met.R.SymbolRule.agrees o t c.args.end c.requires.table (c.requires.end told)
    c.in-Some.ensures.tells) items
    ∙ ap (at_items by.number by.text.now s (r.finds o s))
    (sym (symbols_are o s c.requires.table.passed ∙ c.in-Some.ensures.are.items told)))
    c.each_at_hand.ensures.reports)
    c.each_at_hand.ensures.leaves
