use Rattle.std.proofs.Common.{◌≡◌, ◌-◌, ◌∙◌, ap, arith}
use Rattle.nm_tool.specs.Kept.{kept_of}
use Rattle.nm_tool.proofs.KeptLemmas.{kept_next}
use Rattle.nm_tool.proofs.kept.kept_in.Goals as goal

pub loop-i-init : goal.loop-i-init
unfolding kept_of
loop-i-init c = record {
  begun = omega arith;
  within = omega arith;
  kept = λ o s are. c.in_ok-list.ensures.ok;
}

pub loop-i-preserved : goal.loop-i-preserved
loop-i-preserved c = record {
  begun = omega arith;
  within = omega (arith, c.loop-i-test.true, c.loop-i.invariant.begun);
  kept = λ o s are.
      c.in_ok-push_at.ensures.ok o s are
      ∙ kept_next c.args.options.now o s c.loop-i.i c.loop-i.list c.loop-i.invariant.begun
      (c.loop-i.invariant.kept o s are);
}

pub returns-clause-ok : goal.returns-clause-ok
returns-clause-ok c = λ o s are.
    let last : c.loop-i.i - 1 ≡ c.args.count - 1 =
    omega (arith, c.loop-i-test.false, c.loop-i.invariant.begun, c.loop-i.invariant.within) in
    c.loop-i.invariant.kept o s are ∙ ap (kept_of c.args.options.now o s) last
