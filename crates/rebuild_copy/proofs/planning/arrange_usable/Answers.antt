use Rattle.rebuild_changes.specs.Stated.{stated_changes}
use Rattle.rebuild_copy.proofs.ChangedLaws.{usable_arranged, index_refused}
use Rattle.rebuild_copy.proofs.planning.arrange_usable.Goals as goal

pub returns-in-Ok : goal.returns-in-Ok
returns-in-Ok c =
    usable_arranged (stated_changes c.args.changes.now) c.args.renewed c.args.x
    c.arrange_changed.result c.in-Ok.ensures c.arrange_changed.ensures

pub returns-in-Err : goal.returns-in-Err
returns-in-Err c =
    index_refused (stated_changes c.args.changes.now) c.args.renewed c.args.x c.in-Err.e
    c.in-Err.ensures
