use Rattle.std.proofs.Common.{refl, ◌∙◌}
use Rattle.std.proofs.lemmas.Bool.{eq-eqb}
use Rattle.elf_update_plan.proofs.RowLaws.{ok_is}
use Rattle.rebuild_keep.proofs.KeeperLaws.{names_made}
use Rattle.rebuild_keep.proofs.keepers.Keeper.names_or_kept.Goals as goal

pub returns-then-s-shstrndx : goal.returns-then-s-shstrndx
returns-then-s-shstrndx g c =
    names_made g.S.Source c.args.self.now c.args.s.0 c.args.names.now c.args.names.now.table
    c.copy_shared.result c.args.elf.now
    (eq-eqb c.args.s.0 c.args.elf.now.o.header.shstrndx
    (c.if-s-shstrndx.true ∙ ok_is _ _ c.shstrndx.ensures)) refl
    c.copy_shared.ensures.ok c.copy_shared.ensures.err
