use Rattle.rebuild_edits.proofs.edits.FindLaws.{new_none}
use Rattle.rebuild_edits.proofs.marks.new_name.Goals as goal

pub returns-then-mark-eq0 : goal.returns-then-mark-eq0
returns-then-mark-eq0 c = new_none c.args.renames.now c.args.mark c.if-mark-eq0.true
