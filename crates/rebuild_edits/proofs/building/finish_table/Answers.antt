use Rattle.std.proofs.Common.{length, arith}
use Rattle.rebuild_edits.proofs.TableLaws.{table_finished}
use Rattle.rebuild_edits.proofs.building.finish_table.Goals as goal

pub returns-in-Ok-clause-built : goal.returns-in-Ok-clause-built
returns-in-Ok-clause-built c = λ texts are.
    table_finished texts c.args.making.strings c.args.making.places c.in-Ok.table (length texts)
    (omega arith) are c.in-Ok.ensures.ok
