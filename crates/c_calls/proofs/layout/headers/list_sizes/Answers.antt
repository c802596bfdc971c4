use Rattle.std.proofs.Common.{ℕ, List, sym, subst, arith}
use Rattle.c_calls.proofs.layout.ListLaws.{SizesBelow, no_size, one_size, all_sizes}
use Rattle.c_calls.proofs.layout.headers.list_sizes.Goals as goal

pub loop-s-init : goal.loop-s-init
loop-s-init c =
    subst (λ (l : List ℕ). SizesBelow c.args.headers.now l 0) (sym c.in_ok-sizes.ensures.ok)
    (no_size c.args.headers.now)

pub loop-s-preserved : goal.loop-s-preserved
loop-s-preserved c =
    one_size c.args.headers.now c.loop-s.sizes c.push.new.self c.loop-s.s c.size_listed.result _
    c.loop-s-test.true c.loop-s.invariant c.size_listed.ensures c.in_ok-push.ensures.ok

pub returns-clause-ok : goal.returns-clause-ok
returns-clause-ok c =
    all_sizes c.args.headers.now c.loop-s.sizes c.loop-s.s
    (omega (arith, c.loop-s-test.false, c.loop-s.auto.s-end)) c.loop-s.invariant
