-- Lemmas that a proof needs together.
use Rattle.section_data.proofs.Owning.{lend_at_hand}
use Rattle.section_data.proofs.Preparing.{passed_by}

-- an item that is at hand once what may refuse it has passed
pub ruleset at_hand = (lend_at_hand, passed_by)
