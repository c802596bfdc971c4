use Rattle.std.proofs.Common.{refl}
use Rattle.unstrip_tool.proofs.PairLemmas.{pair_written}
use Rattle.unstrip_tool.proofs.copying.write_pair.Goals as goal

pub returns : goal.returns
returns g c =
    let pair = c.new-pair.result in
    let next = c.write_plan-pair.result.0 in
    rw (c.into_parts.ensures.first, c.into_parts.ensures.second)
    (rw (c.new-pair.ensures.first, c.new-pair.ensures.second) at
    (pair_written g.S.Source g.T.Source _ g.F.Files g.O.Sink g.E.Sink c.args.out.now
    c.args.plan pair.first next.first pair.second next.second pair next
    c.write_plan-pair.result.1 c.args.files.now c.write_plan-pair.new.files
    c.args.outputs.now c.write_plan-pair.new.outputs
    c.write_plan-pair.ensures
    (record { size = refl; holds = refl; rest = refl; faults = refl })
    (record { size = refl; holds = refl; rest = refl; faults = refl })))
