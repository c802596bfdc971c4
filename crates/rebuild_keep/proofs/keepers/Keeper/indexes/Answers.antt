use Rattle.rebuild_keep.proofs.KeeperLaws.{indexes_both, indexes_early}
use Rattle.rebuild_keep.proofs.keepers.Keeper.indexes.Goals as goal

pub returns-in-Ok : goal.returns-in-Ok
returns-in-Ok g c =
    indexes_both g.S.Source c.args.self.now c.args.s.0 c.args.link c.args.elf.now c.requires.link
    c.own_words.new.elf c.indexes_with.new.elf c.in-Ok.words c.as_slice.result.now
    c.indexes_with.result c.in-Ok.ensures c.as_slice.ensures c.indexes_with.ensures

pub returns-in-Err : goal.returns-in-Err
returns-in-Err g c =
    indexes_early g.S.Source c.args.self.now c.args.s.0 c.args.link c.args.elf.now c.requires.link
    c.own_words.new.elf c.in-Err.e c.in-Err.ensures
