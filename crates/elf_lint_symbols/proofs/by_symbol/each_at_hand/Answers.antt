use Rattle.std.proofs.Common.{sym, subst}
use Rattle.tool_objects.specs.declared.at_hand.items.Span.{Span}
use Rattle.tool_objects.specs.AtHand.Items.{IsWithinSpan}
use Rattle.elf_lint_symbols.proofs.by_symbol.each_at_hand.Goals as goal

pub show_found-requires-clause-within : goal.show_found-requires-clause-within
show_found-requires-clause-within g c = λ i x holds.
    subst (λ (s : Span). IsWithinSpan s i) (sym c.span.ensures)
    (g.met.R.SymbolRule.within c.args.t c.args.end i x holds)
