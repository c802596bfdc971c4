use Rattle.rebuild_select.proofs.sought.RowLaws.{no_rows}
use Rattle.rebuild_select.proofs.sought.sections.NameIndex.clear.Goals as goal

pub returns-clause-none : goal.returns-clause-none
returns-clause-none c = λ q t. no_rows c.clear.new.self.keys q t c.clear.ensures.empty
