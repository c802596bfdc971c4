use Rattle.rebuild_join.proofs.joined.joining.unstrip.Goals as goal

pub returns-clause-answer : goal.returns-clause-answer
returns-clause-answer g c = c.join_halves.ensures.joins.answer

pub returns-clause-passed : goal.returns-clause-passed
returns-clause-passed g c = c.join_halves.ensures.joins.passed

pub returns-clause-early : goal.returns-clause-early
returns-clause-early g c = c.join_halves.ensures.joins.early

pub returns-clause-asks_stripped : goal.returns-clause-asks_stripped
returns-clause-asks_stripped g c = c.join_halves.ensures.joins.asks_stripped

pub returns-clause-asks_debug : goal.returns-clause-asks_debug
returns-clause-asks_debug g c = c.join_halves.ensures.joins.asks_debug
