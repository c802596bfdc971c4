use Rattle.rebuild_join.specs.Joined.Answers.{homes_of_stripped}
use Rattle.rebuild_join.proofs.joined.JoinLaws.{joins_value, joins_fault}
use Rattle.rebuild_join.proofs.joined.joining.finish.Goals as goal

pub returns-in-Ok-clause-joins : goal.returns-in-Ok-clause-joins
returns-in-Ok-clause-joins g c =
    joins_value g.S.Source g.T.Source tt _ _ (homes_of_stripped c.args.stripped.now.o)
    c.args.stripped.now c.fill_and_place.new.stripped c.args.debug.now
    c.fill_and_place.new.debug c.in-Ok.ensures.joins

pub returns-in-Err-clause-joins : goal.returns-in-Err-clause-joins
returns-in-Err-clause-joins g c =
    joins_fault g.S.Source g.T.Source c.in-Err.fault _ (homes_of_stripped c.args.stripped.now.o)
    c.args.stripped.now c.fill_and_place.new.stripped c.args.debug.now
    c.fill_and_place.new.debug c.in-Err.ensures.joins
