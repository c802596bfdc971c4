use Rattle.rebuild_copy.proofs.FindLaws.{memory_alters}
use Rattle.rebuild_copy.proofs.StoreLaws.{table_alters}
use Rattle.rebuild_copy.proofs.storing.store_table.Goals as goal

pub returns-in-Ok : goal.returns-in-Ok
returns-in-Ok c =
    table_alters c.args.names c.args.x.now c.put_names.new.x c.put_table.new.x
    c.put_names.ensures.places c.put_names.ensures.ranges c.in-Ok.ensures.ok

pub returns : goal.returns
returns c =
    memory_alters _ _ c.in-Err.e c.args.x.now c.put_table.new.x c.in-Err.ensures.err
