use Rattle.std.proofs.Common.{arith}
use Rattle.hash_order.proofs.IndexLaws.{below_more, below_all}
use Rattle.hash_order.proofs.indexes.indexes_below.Goals as goal

pub loop-i-init : goal.loop-i-init
loop-i-init c = c.in_ok-words.ensures.ok

pub loop-i-preserved : goal.loop-i-preserved
loop-i-preserved c =
    below_more c.loop-i.i _ c.loop-i.words c.push.new.self c.loop-i.invariant
    c.in_ok-push.ensures.ok (omega (arith, c.loop-i-test.true, c.requires))

pub returns-clause-ok : goal.returns-clause-ok
returns-clause-ok c =
    below_all c.loop-i.i c.args.count c.loop-i.words c.loop-i-test.false c.loop-i.auto.i-end
    c.loop-i.invariant
