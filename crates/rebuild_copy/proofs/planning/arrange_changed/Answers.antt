use Rattle.rebuild_changes.specs.Stated.{stated_changes}
use Rattle.rebuild_copy.proofs.ChangedLaws.{changed_arranged, changed_far, changed_fault}
use Rattle.rebuild_copy.proofs.planning.arrange_changed.Goals as goal

pub returns-in-Ok-arrange_again : goal.returns-in-Ok-arrange_again
returns-in-Ok-arrange_again c =
    changed_arranged (stated_changes c.args.changes.now) c.args.renewed c.args.x
    c.make_changes.new.x c.in-Ok-arrange_again.y c.in-Ok-arrange_again.ensures c.in-Ok.ensures

pub returns-in-Err-arrange_again : goal.returns-in-Err-arrange_again
returns-in-Err-arrange_again c =
    changed_far (stated_changes c.args.changes.now) c.args.renewed c.args.x
    c.make_changes.new.x c.in-Err-arrange_again.e c.in-Ok.ensures c.in-Err-arrange_again.ensures

pub returns-in-Err : goal.returns-in-Err
returns-in-Err c =
    changed_fault (stated_changes c.args.changes.now) c.args.renewed c.args.x
    c.make_changes.new.x c.in-Err.fault c.in-Err.ensures
