use Rattle.hash_order.proofs.MovingLaws.{pushed_as, item_there, item_gone}
use Rattle.hash_order.proofs.moving.push_item.Goals as goal
use Rattle.std.proofs.Common.{◌≡◌, ◌++◌, ℕ, Some, None, ap, ◌∙◌, sym, subst, append-nil}
use Rattle.std.specs.Prelude.{slice_get}

pub returns-in-Some-clause-ok : goal.returns-in-Some-clause-ok
returns-in-Some-clause-ok g c =
    pushed_as c.push.result c.args.moved.now c.push.new.self _ _
    (item_there c.args.items.now c.args.i c.in-Some.x
    (subst (λ (n : ℕ). Some c.in-Some.x ≡ slice_get c.args.items.now n) c.from.ensures
    c.in-Some.ensures)) c.push.ensures.ok

pub returns-in-None-clause-ok : goal.returns-in-None-clause-ok
returns-in-None-clause-ok g c =
    sym (append-nil c.args.moved.now)
    ∙ ap (λ l. c.args.moved.now ++ l) (item_gone c.args.items.now c.args.i
    (subst (λ (n : ℕ). None ≡ slice_get c.args.items.now n) c.from.ensures c.in-None.ensures))
