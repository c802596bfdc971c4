use Rattle.tool_objects.proofs.at_hand.Ends.{some_weaker}
use Rattle.nm_tool.specs.Tables.{HoldsSymbols}
use Rattle.nm_tool.proofs.symbols.symbol_bytes.Goals as goal

pub returns-in-None : goal.returns-in-None
returns-in-None g c =
    some_weaker _ (HoldsSymbols c.args.elf.now c.args.t) c.items_at_hand.result
    (λ b are. record { plain = c.in-None.is; items = are }) c.items_at_hand.ensures
