use Rattle.std.proofs.Common.{ℕ, List, Option, ap}
use Rattle.std.specs.Prelude.{is_some}
use Rattle.rebuild_copy.proofs.tables.is_ended.Goals as goal

pub returns-in-Some : goal.returns-in-Some
returns-in-Some c = ap (λ (found : Option (List ℕ)). is_some found) c.in-Some.ensures

pub returns-in-None : goal.returns-in-None
returns-in-None c = ap (λ (found : Option (List ℕ)). is_some found) c.in-None.ensures
