use Rattle.std.proofs.Common.{ap}
use Rattle.rebuild_changes.specs.declared.options.NamedBits.{NamedBits}
use Rattle.rebuild_changes.specs.Stated.{bits_pair}
use Rattle.copy_tool.proofs.NameLemmas.{mapped_more}
use Rattle.copy_tool.proofs.changes.flags_of_each.Goals as goal

pub loop-one-preserved : goal.loop-one-preserved
loop-one-preserved c =
    rw c.in_ok-push.ensures.ok (mapped_more bits_pair
    (λ (f : NamedBits). (f.name, f.bits)) c.loop-one.list c.in_ok-item.item c.args.each.now
    c.loop-one.one-index c.one-item.result c.loop-one-test.true c.one-item.is
    (ap bits_pair c.in_ok-item.ensures.ok) c.loop-one.invariant)
