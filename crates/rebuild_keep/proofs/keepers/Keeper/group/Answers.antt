use Rattle.rebuild_keep.proofs.KeeperLaws.{group_then}
use Rattle.rebuild_keep.proofs.keepers.Keeper.group.Goals as goal

pub returns-in-Ok : goal.returns-in-Ok
returns-in-Ok g c =
    group_then g.S.Source c.args.self.now.numbering c.group_items.result c.args.elf.now
    c.own_words.new.elf c.args.s.0 c.in-Ok.words c.as_slice.result.now c.in-Ok.ensures
    c.as_slice.ensures c.group_items.ensures.ok c.group_items.ensures.err
