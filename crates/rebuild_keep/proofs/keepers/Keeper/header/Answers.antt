use Rattle.rebuild_keep.proofs.KeeperLaws.{header_is}
use Rattle.rebuild_keep.proofs.keepers.Keeper.header.Goals as goal

pub returns : goal.returns
returns g c =
    header_is c.args.self.now c.args.elf.now.o c.args.s.0 c.section_header-h.result
    c.followed_header.result c.name_of.result c.section_header-h.ensures c.followed_header.ensures
    c.name_of.ensures
