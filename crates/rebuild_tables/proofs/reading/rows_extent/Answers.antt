use Rattle.std.proofs.Common.{◌-◌, arith}
use Rattle.rebuild_tables.proofs.ReadLaws.{rows_inside}
use Rattle.rebuild_tables.proofs.reading.rows_extent.Goals as goal

pub returns-clause-inside : goal.returns-clause-inside
returns-clause-inside c =
    rows_inside c.args.t.at c.args.t.count c.args.size c.min-first.result
    (c.min.result - c.min-first.result)
    (omega (arith, c.min-first.ensures, c.min.ensures, c.requires.order))
