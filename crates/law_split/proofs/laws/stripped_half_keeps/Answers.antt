use Rattle.law_split.proofs.StrippedHalf.{stripped_half_keeps}
use Rattle.law_split.proofs.laws.stripped_half_keeps.Goals as goal

pub returns : goal.returns
returns c = stripped_half_keeps c.reopen_law.ensures
