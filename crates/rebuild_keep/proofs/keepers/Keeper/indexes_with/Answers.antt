use Rattle.rebuild_keep.proofs.KeeperLaws.{indexes_then}
use Rattle.rebuild_keep.proofs.keepers.Keeper.indexes_with.Goals as goal

pub returns-in-Ok : goal.returns-in-Ok
returns-in-Ok g c =
    indexes_then g.S.Source c.args.self.now.numbering c.index_items.result c.args.elf.now
    c.home_syms.new.elf c.args.link c.args.words.now c.in-Ok.syms c.as_slice.result.now
    c.in-Ok.ensures c.as_slice.ensures c.index_items.ensures.ok c.index_items.ensures.err
