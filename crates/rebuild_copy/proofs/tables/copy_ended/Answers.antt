use Rattle.std.proofs.Common.{◌+◌, drop}
use Rattle.rebuild_copy.specs.Rows.{held_in}
use Rattle.rebuild_copy.proofs.TableLaws.{ended_found}
use Rattle.rebuild_copy.proofs.tables.copy_ended.Goals as goal

pub returns-in-Ok-clause-ok : goal.returns-in-Ok-clause-ok
returns-in-Ok-clause-ok c =
    ended_found c.if_ended.result (c.args.count + 1) c.in-Ok.bytes
    (drop c.args.place (held_in c.args.x.now c.args.table)) c.in-Ok.ensures.ok c.if_ended.ensures
