use Rattle.rebuild_copy.proofs.ChangeLaws.{updated_then, updated_end}
use Rattle.rebuild_copy.proofs.changing.make_changes.Goals as goal

pub returns-in-Ok : goal.returns-in-Ok
returns-in-Ok c =
    updated_then c.args.changes.now c.args.renewed c.args.x.now c.update_sections.new.x
    c.rename_and_plan.new.x c.rename_and_plan.result (rw c.as_slice.ensures at c.in-Ok.ensures)
    c.rename_and_plan.ensures

pub returns-in-Err : goal.returns-in-Err
returns-in-Err c =
    updated_end c.args.changes.now c.args.renewed c.args.x.now c.update_sections.new.x
    c.update_sections.new.x c.in-Err.fault (rw c.as_slice.ensures at c.in-Err.ensures)
