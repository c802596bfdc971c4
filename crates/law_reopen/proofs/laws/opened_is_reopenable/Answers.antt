use Rattle.law_reopen.proofs.CallsLaws.{opened_is_reopenable}
use Rattle.law_reopen.proofs.laws.opened_is_reopenable.Goals as goal

pub returns : goal.returns
returns c = opened_is_reopenable
