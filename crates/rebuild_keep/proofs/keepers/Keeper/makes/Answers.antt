use Rattle.std.proofs.Common.{ℕ, ◌==◌, sym, ap, ◌∙◌}
use Rattle.elf_update_plan.proofs.RowLaws.{ok_is}
use Rattle.rebuild_keep.specs.Keepers.{is_renewed}
use Rattle.rebuild_keep.proofs.KeeperLaws.{makes_renewed, makes_others}
use Rattle.rebuild_keep.proofs.keepers.Keeper.makes.Goals as goal

pub returns-then-is_renewed : goal.returns-then-is_renewed
returns-then-is_renewed g c =
    makes_renewed c.args.self.now c.args.elf.now.o c.args.s.0
    (sym (c.is_renewed.ensures
    ∙ ap (λ (n : ℕ). is_renewed c.args.self.now.names (c.args.s.0 == n))
    (ok_is _ _ c.shstrndx.ensures))
    ∙ c.if-is_renewed.true)

pub returns : goal.returns
returns g c =
    makes_others c.args.self.now c.args.elf.now.o c.args.s.0 c.follows.result
    (sym (c.is_renewed.ensures
    ∙ ap (λ (n : ℕ). is_renewed c.args.self.now.names (c.args.s.0 == n))
    (ok_is _ _ c.shstrndx.ensures))
    ∙ c.if-is_renewed.false) c.follows.ensures
