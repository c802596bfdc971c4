use Rattle.rebuild_join.proofs.pair.PairLaws.{pair_ranged}
use Rattle.rebuild_join.proofs.pair.pairs.SourcePairSource.len.Goals as goal

pub returns-clause-ranged : goal.returns-clause-ranged
returns-clause-ranged g c =
    pair_ranged (g.S.Source.holds c.args.self.now.first) (g.T.Source.holds c.args.self.now.second)
    c.len-first.ensures.ranged c.len-second.ensures.ranged
