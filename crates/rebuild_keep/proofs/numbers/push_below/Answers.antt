use Rattle.std.proofs.Common.{◌≡◌, ◌++◌, ℕ, List, sym, ap, ◌∙◌, arith}
use Rattle.rebuild_keep.specs.Numbers.{kept_alone, kept_numbers_below}
use Rattle.rebuild_keep.proofs.NumberLaws.{below_none, below_more}
use Rattle.rebuild_keep.proofs.numbers.push_below.Goals as goal

pub loop-s-init : goal.loop-s-init
loop-s-init c = c.requires ∙ sym (below_none c.args.removed.now)

pub loop-s-preserved : goal.loop-s-preserved
loop-s-preserved c =
    let removed = c.args.removed.now in
    c.in_ok-push_kept.ensures.ok
    ∙ ap (λ (l : List ℕ). l ++ kept_alone removed c.loop-s.s) c.loop-s.invariant
    ∙ sym (below_more removed c.loop-s.s)

pub returns-clause-ok : goal.returns-clause-ok
returns-clause-ok c =
    let all : c.loop-s.s ≡ c.args.count =
    omega (arith, c.loop-s-test.false, c.loop-s.auto.s-end) in
    c.loop-s.invariant ∙ ap (kept_numbers_below c.args.removed.now) all
