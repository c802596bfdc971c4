use Rattle.std.proofs.Common.{ℕ, nat_cmp, ap}
use Rattle.std.specs.Ordering.{is_eq}
use Rattle.std.specs.Map.{lookup}
use Rattle.rebuild_names.proofs.known.KnownPlaces.new.Goals as goal

pub returns : goal.returns
returns c = λ at. ap (lookup (λ (k : ℕ). is_eq (nat_cmp at k))) c.new.ensures.empty
