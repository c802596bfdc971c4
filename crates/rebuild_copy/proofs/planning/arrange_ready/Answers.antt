use Rattle.rebuild_changes.specs.Stated.{stated_changes}
use Rattle.rebuild_copy.proofs.HeldLaws.{not_ready, ready_arranged}
use Rattle.rebuild_copy.proofs.planning.arrange_ready.Goals as goal

pub returns-then-not-is_ready : goal.returns-then-not-is_ready
returns-then-not-is_ready g c =
    not_ready g.S.Source (stated_changes c.args.changes.now) c.args.renewed c.args.x
    c.args.elf.now

pub returns : goal.returns
returns g c =
    ready_arranged g.S.Source (stated_changes c.args.changes.now) c.args.renewed c.args.x
    c.args.elf.now c.arrange_held.result c.arrange_held.new.elf
    (c.is_ready.ensures c.if-not-is_ready.false) c.arrange_held.ensures
