use Rattle.std.proofs.Common.{arith}
use Rattle.hash_model.proofs.elf_xlate.ListedItems.{sym_sized}
use Rattle.symbol_lookup.proofs.AtHand.{lacks_item}
use Rattle.symbol_lookup.proofs.passing.lacks_symbol.Goals as goal

pub bytes_of_item-requires : goal.bytes_of_item-requires
bytes_of_item-requires c = omega (arith, sym_sized c.args.class, c.item_size.ensures)

pub returns-in-Some : goal.returns-in-Some
returns-in-Some c = λ is.
    lacks_item c.args.class c.args.order c.args.symbols.now c.args.strings.now c.args.name.now c.args.i c.item_size.result c.in-Some.symbol.now c.item_size.ensures
    c.in-Some.ensures.there c.in-Some.ensures.inside c.in-Some.ensures.whole (c.lacks_name_of.ensures is)
