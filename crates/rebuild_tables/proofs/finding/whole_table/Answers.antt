use Rattle.std.proofs.Common.{refl}
use Rattle.rebuild_tables.proofs.FindLaws.{whole_items}
use Rattle.rebuild_tables.proofs.finding.whole_table.Goals as goal

pub returns : goal.returns
returns c = (refl, whole_items c.args.len c.args.size c.if-len-size-ne0.false)
