use Rattle.rebuild_keep.proofs.KeeperLaws.{symbols_then}
use Rattle.rebuild_keep.proofs.keepers.Keeper.symbols_with.Goals as goal

pub returns-in-Ok : goal.returns-in-Ok
returns-in-Ok g c =
    symbols_then g.S.Source c.args.self.now.numbering c.symbol_items.result c.args.elf.now
    c.own_syms.new.elf c.args.s.0 c.args.words.now c.in-Ok.syms c.as_slice.result.now
    c.in-Ok.ensures c.as_slice.ensures c.symbol_items.ensures.ok c.symbol_items.ensures.err
