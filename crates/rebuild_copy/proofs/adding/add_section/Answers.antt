use Rattle.rebuild_changes.specs.Stated.{bytes_pair}
use Rattle.rebuild_copy.proofs.AddLaws.{first_then}
use Rattle.rebuild_copy.proofs.FindLaws.{memory_alters}
use Rattle.rebuild_copy.proofs.adding.add_section.Goals as goal

pub returns-in-Ok : goal.returns-in-Ok
returns-in-Ok c =
    first_then (bytes_pair c.args.change.now) c.args.x.now c.add_first.new.x c.add_last.new.x
    c.add_last.result c.in-Ok.ensures.ok c.add_last.ensures

pub returns-in-Err : goal.returns-in-Err
returns-in-Err c =
    memory_alters _ _ c.in-Err.e c.args.x.now c.add_first.new.x c.in-Err.ensures.err
