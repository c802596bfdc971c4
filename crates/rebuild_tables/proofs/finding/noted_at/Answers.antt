use Rattle.rebuild_keep.proofs.KeeperLaws.{number_is}
use Rattle.rebuild_tables.proofs.finding.noted_at.Goals as goal

pub returns : goal.returns
returns c =
    rw (c.unwrap_or.ensures, c.get.ensures, c.from.ensures)
    (number_is c.args.numbers.now c.args.i)
