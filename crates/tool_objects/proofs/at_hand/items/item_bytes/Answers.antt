use Rattle.std.proofs.Common.{sym}
use Rattle.gelf_view.proofs.elf_object.AnswerLaws.{answered_value}
use Rattle.tool_objects.proofs.at_hand.Ends.{some_weaker}
use Rattle.tool_objects.proofs.at_hand.HeldItems.{held_bytes_hold_items}
use Rattle.tool_objects.proofs.at_hand.items.item_bytes.Goals as goal

pub returns-in-Ok : goal.returns-in-Ok
returns-in-Ok g c =
    let passed = (answered_value _ _ c.in-Ok.field-0 (sym c.in-Ok.ensures.answer)).0 in
    some_weaker _ _ c.held_bytes.result (λ b held. held_bytes_hold_items g.T.Listed.kind g.T.Listed.list_of c.args.elf.now c.args.s.0 b.now passed held) c.held_bytes.ensures
