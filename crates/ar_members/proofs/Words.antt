-- Lemmas of the library under a name of their own.
use Rattle.std.proofs.lemmas.List.{drop_all}

-- nothing is left past the end
pub ruleset past = (drop_all)
