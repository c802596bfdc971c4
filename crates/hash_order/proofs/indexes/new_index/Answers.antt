use Rattle.std.proofs.Common.{◌≡◌, ℕ, Some, None, subst}
use Rattle.std.specs.Prelude.{slice_get}
use Rattle.hash_order.proofs.IndexLaws.{index_found, index_stays}
use Rattle.hash_order.proofs.indexes.new_index.Goals as goal

pub returns-in-Some : goal.returns-in-Some
returns-in-Some c =
    index_found c.args.order.now c.args.indexes.now c.args.i c.in-Some.new c.requires.new
    (subst (λ (n : ℕ). Some c.in-Some.new ≡ slice_get c.args.indexes.now n) c.from.ensures
    c.in-Some.ensures)

pub returns-in-None : goal.returns-in-None
returns-in-None c =
    index_stays c.args.order.now c.args.indexes.now c.args.i c.requires.below c.requires.new
    (subst (λ (n : ℕ). None ≡ slice_get c.args.indexes.now n) c.from.ensures c.in-None.ensures)
