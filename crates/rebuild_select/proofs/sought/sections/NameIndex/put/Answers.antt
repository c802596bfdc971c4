use Rattle.std.proofs.Common.{sym}
use Rattle.rebuild_select.proofs.sought.RowLaws.{row_passed, put_found}
use Rattle.rebuild_select.proofs.sought.sections.NameIndex.put.Goals as goal

pub returns-in-Some-clause-ok : goal.returns-in-Some-clause-ok
returns-in-Some-clause-ok c =
    put_found c.insert.result c.args.self.now.sought c.args.self.now.rows.keys
    c.insert.new.self.rows.keys c.in-Some.one.now c.args.name.now c.args.s
    c.in-Some.ensures.same c.insert.ensures.ok

pub returns-in-None-clause-ok : goal.returns-in-None-clause-ok
returns-in-None-clause-ok c = λ q t sought.
    row_passed c.args.self.now.sought c.args.self.now.rows.keys c.args.name.now q c.args.s t
    (sym c.in-None.ensures.found) sought
