use Rattle.std.proofs.Common.{sym, ◌∙◌}
use Rattle.rebuild_names.proofs.rebuild_numbers.kept.KeptLaws.{kept_below}
use Rattle.rebuild_keep.proofs.KeeperLaws.{holds_where, holds_not}
use Rattle.rebuild_keep.proofs.keepers.Keeper.holds_indexes.Goals as goal

pub serves-requires : goal.serves-requires
serves-requires g c =
    kept_below c.args.elf.now.o c.args.self.now.removed.now c.args.link
    (sym c.is_kept.ensures ∙ c.if-is_kept.true)

pub returns-then-is_kept : goal.returns-then-is_kept
returns-then-is_kept g c =
    holds_where c.args.self.now c.args.elf.now.o c.args.s.0 c.args.link c.requires
    c.serves.result (sym c.is_kept.ensures ∙ c.if-is_kept.true) c.serves.ensures

pub returns : goal.returns
returns g c =
    holds_not c.args.self.now c.args.elf.now.o c.args.s.0 c.args.link c.requires
    (sym c.is_kept.ensures ∙ c.if-is_kept.false)
