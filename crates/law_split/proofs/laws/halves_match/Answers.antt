use Rattle.law_split.proofs.Matching.{halves_match}
use Rattle.law_split.proofs.laws.halves_match.Goals as goal

pub returns : goal.returns
returns c = halves_match c.debug_half_keeps.ensures c.stripped_half_keeps.ensures
