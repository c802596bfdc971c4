use Rattle.rebuild_numbers.proofs.GroupLaws.{group_none, group_step, group_all}
use Rattle.rebuild_numbers.proofs.groups.fill_group.Goals as goal

pub loop-i-init : goal.loop-i-init
loop-i-init c =
    group_none c.args.numbering.now c.args.words.now c.args.members.now c.requires

pub loop-i-preserved : goal.loop-i-preserved
loop-i-preserved c =
    group_step c.args.numbering.now c.args.words.now c.loop-i.members c.add_word.new.members
    c.loop-i.i _ c.loop-i-test.true c.loop-i.invariant c.in_ok-add_word.ensures.ok

pub returns-clause-ok : goal.returns-clause-ok
returns-clause-ok c =
    group_all c.args.numbering.now c.args.words.now c.loop-i.members c.loop-i.i
    c.loop-i-test.false c.loop-i.invariant
