use Rattle.rebuild_copy.proofs.ChangeLaws.{added_then, added_end}
use Rattle.rebuild_copy.proofs.changing.add_and_name.Goals as goal

pub returns-in-Ok : goal.returns-in-Ok
returns-in-Ok c =
    added_then c.args.changes.now c.args.naming c.args.x.now c.add_sections.new.x
    c.store_names.new.x c.store_names.result (rw c.as_slice.ensures at c.in-Ok.ensures)
    c.store_names.ensures

pub returns-in-Err : goal.returns-in-Err
returns-in-Err c =
    rw c.refuse_names.ensures (added_end c.args.changes.now c.args.naming c.args.x.now
    c.add_sections.new.x c.add_sections.new.x c.in-Err.fault
    (rw c.as_slice.ensures at c.in-Err.ensures))
