use Rattle.law_split.proofs.CombineLaws.{halves_combine}
use Rattle.law_split.proofs.laws.halves_combine.Goals as goal

pub returns : goal.returns
returns c =
    halves_combine c.reopen_law.ensures c.debug_half_keeps.ensures c.stripped_half_keeps.ensures
