use Rattle.rebuild_select.proofs.sought.RowLaws.{row_put}
use Rattle.rebuild_select.proofs.sought.sections.NameIndex.insert.Goals as goal

pub returns-clause-ok : goal.returns-clause-ok
returns-clause-ok c = λ q t.
    row_put c.args.self.now.rows c.insert.new.self
    (record { name = c.args.name; section = c.args.s }) q t c.in_ok-insert.ensures.updates
