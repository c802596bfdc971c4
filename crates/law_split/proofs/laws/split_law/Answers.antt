use Rattle.law_split.proofs.SplitLaws.{split_law}
use Rattle.law_split.proofs.laws.split_law.Goals as goal

pub returns : goal.returns
returns c =
    split_law c.reopen_law.ensures c.debug_half_keeps.ensures c.stripped_half_keeps.ensures
    c.halves_combine.ensures
