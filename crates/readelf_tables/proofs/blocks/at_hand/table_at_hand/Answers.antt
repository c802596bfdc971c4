use Rattle.readelf_tables.proofs.blocks.AtHandLemmas.{at_hand_is}
use Rattle.readelf_tables.proofs.blocks.at_hand.table_at_hand.Goals as goal

pub returns : goal.returns
returns g c =
    at_hand_is g.T.Listed.kind g.T.Listed.list_of c.args.elf.now c.args.table _ c.class.ensures c.order.ensures
    c.in_ok-relocations.ensures c.in_ok-symbols.ensures c.in_ok-strings.ensures.strings
