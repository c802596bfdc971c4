use Rattle.rebuild_keep.specs.declared.naming.Names.TheVariants.{Stay, Anew, TooLarge}
use Rattle.rebuild_keep.proofs.KeeperLaws.{items_made}
use Rattle.rebuild_keep.proofs.keepers.Keeper.items.Goals as goal

pub returns-in-Anew : goal.returns-in-Anew
returns-in-Anew g c =
    items_made g.S.Source c.args.self.now c.args.s.0 (Anew c.in-Anew.names) c.names_or_kept.result
    c.args.elf.now c.names_or_kept.new.elf c.in-Anew.is c.names_or_kept.ensures

pub returns-in-Stay : goal.returns-in-Stay
returns-in-Stay g c =
    items_made g.S.Source c.args.self.now c.args.s.0 Stay c.kept.result c.args.elf.now
    c.kept.new.elf c.in-Stay.is c.kept.ensures

pub returns-in-TooLarge : goal.returns-in-TooLarge
returns-in-TooLarge g c =
    items_made g.S.Source c.args.self.now c.args.s.0 TooLarge c.kept-in-TooLarge.result
    c.args.elf.now c.kept-in-TooLarge.new.elf c.in-TooLarge.is c.kept-in-TooLarge.ensures
