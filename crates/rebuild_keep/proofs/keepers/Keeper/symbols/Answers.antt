use Rattle.rebuild_keep.proofs.KeeperLaws.{symbols_both, symbols_early}
use Rattle.rebuild_keep.proofs.keepers.Keeper.symbols.Goals as goal

pub returns-in-Ok : goal.returns-in-Ok
returns-in-Ok g c =
    symbols_both g.S.Source c.args.self.now c.args.s.0 c.number_at.result c.number_at.ensures
    c.args.elf.now c.home_words.new.elf c.symbols_with.new.elf c.in-Ok.words
    c.as_slice.result.now c.symbols_with.result c.in-Ok.ensures c.as_slice.ensures
    c.symbols_with.ensures

pub returns-in-Err : goal.returns-in-Err
returns-in-Err g c =
    symbols_early g.S.Source c.args.self.now c.args.s.0 c.number_at.result c.number_at.ensures
    c.args.elf.now c.home_words.new.elf c.in-Err.e c.in-Err.ensures
