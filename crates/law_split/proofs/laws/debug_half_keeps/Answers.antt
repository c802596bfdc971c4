use Rattle.law_split.proofs.DebugHalf.{debug_half_keeps}
use Rattle.law_split.proofs.laws.debug_half_keeps.Goals as goal

pub returns : goal.returns
returns c = debug_half_keeps c.reopen_law.ensures
