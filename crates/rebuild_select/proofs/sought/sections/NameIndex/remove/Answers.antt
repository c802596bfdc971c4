use Rattle.rebuild_select.proofs.sought.RowLaws.{row_taken}
use Rattle.rebuild_select.proofs.sought.sections.NameIndex.remove.Goals as goal

pub returns-clause-removed : goal.returns-clause-removed
returns-clause-removed c = λ q t.
    row_taken c.args.self.now.rows c.remove.new.self
    (record { name = c.args.name; section = c.args.s }) q t c.remove.ensures.updates
