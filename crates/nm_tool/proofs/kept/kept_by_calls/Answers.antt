use Rattle.std.proofs.Common.{arith}
use Rattle.nm_tool.specs.Kept.{kept_of}
use Rattle.tool_objects.proofs.LearnLemmas.{learns_now, learns_then}
use Rattle.nm_tool.proofs.KeptLemmas.{kept_next}
use Rattle.nm_tool.proofs.kept.kept_by_calls.Goals as goal

pub loop-i-init : goal.loop-i-init
unfolding kept_of
loop-i-init g c = record {
  begun = omega arith;
  within = omega arith;
  learned = learns_now g.S.Source _ _ _ (λ told. c.new-list.ensures);
}

pub loop-i-preserved : goal.loop-i-preserved
loop-i-preserved g c = record {
  begun = omega arith;
  within = omega (arith, c.loop-i-test.true, c.loop-i.invariant.begun);
  learned = learns_then g.S.Source _ _ _ _ _ _ _ _
      (λ told known. kept_next c.args.options.now c.args.elf.now.o c.args.t.symbols.0 c.loop-i.i
      c.loop-i.list c.loop-i.invariant.begun known)
      c.loop-i.invariant.learned c.in_ok-list.ensures;
}
