use Rattle.rebuild_changes.specs.Stated.{stated_changes}
use Rattle.rebuild_copy.proofs.HeldLaws.{held_arranged, not_held}
use Rattle.rebuild_copy.proofs.planning.arrange_held.Goals as goal

pub returns-in-Ok : goal.returns-in-Ok
returns-in-Ok g c =
    held_arranged g.S.Source (stated_changes c.args.changes.now) c.args.renewed c.args.x
    c.args.elf.now c.hold_table.new.elf c.requires.object c.requires.ready c.hold_table.new.x
    c.in-Ok.ensures c.arrange_usable.result c.arrange_usable.ensures

pub returns-in-Err : goal.returns-in-Err
returns-in-Err g c =
    not_held g.S.Source (stated_changes c.args.changes.now) c.args.renewed c.args.x
    c.args.elf.now c.hold_table.new.elf c.requires.object c.requires.ready c.hold_table.new.x
    c.in-Err.e c.in-Err.ensures
