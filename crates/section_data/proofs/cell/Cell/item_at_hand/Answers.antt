use Rattle.std.proofs.Common.{◌∙◌}
use Rattle.section_data.proofs.Holdings.{tells_clean}
use Rattle.section_data.proofs.cell.Cell.item_at_hand.Goals as goal

pub returns : goal.returns
returns g c =
    tells_clean g.T.Listed.kind g.T.Listed.list_of c.args.class c.args.order c.args.self.now c.args.p c.args.i c.bytes.result.now c.item_if_whole.result
    c.bytes.ensures.cell (c.is_clean_home.ensures.there c.if-not-is_clean_home.false) (c.is_clean_home.ensures.clean c.if-not-is_clean_home.false)
    (c.is_home_of.ensures c.if-not-is_home_of.false ∙ c.kind.ensures) c.bytes.ensures.value c.item_if_whole.ensures.whole c.item_if_whole.ensures.value
