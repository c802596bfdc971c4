use Rattle.rebuild_join.proofs.pair.PairLaws.{size_stays, bytes_stay, rest_stays}
use Rattle.rebuild_join.proofs.pair.pairs.SourcePairSource.read_at.Goals as goal

pub returns-clause-leaves : goal.returns-clause-leaves
returns-clause-leaves g c =
    let left = c.read_pair.ensures.first in
    let other = c.read_pair.ensures.second in
    record {
      same_len = size_stays g.S.Source g.T.Source _ _ _ _ left other;
      same_bytes = bytes_stay g.S.Source g.T.Source _ _ _ _ left other;
      same_rest = rest_stays g.S.Source g.T.Source _ _ _ _ left other;
    }

pub returns-clause-bytes : goal.returns-clause-bytes
returns-clause-bytes g c = c.read_pair.ensures.bytes

pub returns-clause-cause : goal.returns-clause-cause
returns-clause-cause g c = c.read_pair.ensures.cause

pub returns-clause-taken : goal.returns-clause-taken
returns-clause-taken g c = c.read_pair.ensures.taken
