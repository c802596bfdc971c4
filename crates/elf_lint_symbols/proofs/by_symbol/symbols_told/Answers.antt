use Rattle.std.proofs.Common.{sym, ◌∙◌}
use Rattle.tool_objects.proofs.at_hand.Ends.{some_weaker}
use Rattle.elf_lint_symbols.proofs.by_symbol.symbols_told.Goals as goal

pub returns-clause-tells : goal.returns-clause-tells
returns-clause-tells g c =
    some_weaker _ _ c.items_at_hand.result
    (λ b are. sym c.tells.ensures ∙ c.if-not-tells.false) c.items_at_hand.ensures
