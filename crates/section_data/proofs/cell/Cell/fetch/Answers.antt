use Rattle.std.proofs.Common.{sym, ◌∙◌}
use Rattle.section_data.proofs.Loading.{warms_same, due_clean}
use Rattle.section_data.proofs.cell.Cell.fetch.Goals as goal

pub returns-then-is_own-clause-warms : goal.returns-then-is_own-clause-warms
returns-then-is_own-clause-warms g c = warms_same _ c.args.self.now

pub returns-clause-answer : goal.returns-clause-answer
returns-clause-answer g c =
    let clean = sym c.is_own.ensures.value ∙ c.if-is_own.false in
    rw (due_clean c.args.self.now c.args.p clean, clean) c.load.ensures.answer

pub returns-clause-asks : goal.returns-clause-asks
returns-clause-asks g c =
    let clean = sym c.is_own.ensures.value ∙ c.if-is_own.false in
    rw (due_clean c.args.self.now c.args.p clean) c.load.ensures.asks
