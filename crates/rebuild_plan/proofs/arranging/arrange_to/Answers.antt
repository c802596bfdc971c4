use Rattle.rebuild_plan.proofs.ArrangeLaws.{none_arranges, some_listed, as_they_are, behind_arranges}
use Rattle.rebuild_plan.proofs.arranging.arrange_to.Goals as goal

pub returns-then-is_empty : goal.returns-then-is_empty
returns-then-is_empty c =
    none_arranges c.args.x c.args.tail c.is_empty.result c.requires c.is_empty.ensures
    c.if-is_empty.true

pub arrange_listed-requires-clause-some : goal.arrange_listed-requires-clause-some
arrange_listed-requires-clause-some c =
    some_listed c.args.x c.is_empty.result c.is_empty.ensures c.if-is_empty.false

pub returns-in-Some : goal.returns-in-Some
returns-in-Some c =
    rw c.in-Some.is (behind_arranges c.args.x c.in-Some.tail c.arrange_listed.result c.requires
    c.arrange_listed.ensures.ok c.arrange_listed.ensures.count c.arrange_listed.ensures.sizes
    c.arrange_listed.ensures.err)

pub returns-in-None : goal.returns-in-None
returns-in-None c = rw c.in-None.is (as_they_are c.args.x c.requires)
