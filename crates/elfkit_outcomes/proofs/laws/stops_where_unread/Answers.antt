use Rattle.elfkit_outcomes.proofs.OpenedAgainLaws as laws
use Rattle.elfkit_outcomes.proofs.laws.stops_where_unread.Goals as goal

pub returns : goal.returns
returns c = laws.stops_where_unread
