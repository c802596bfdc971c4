use Rattle.selftest_tool.proofs.ValueLemmas.{one_more}
use Rattle.selftest_tool.proofs.making.add_to_values.Goals as goal

pub loop-symbol-preserved : goal.loop-symbol-preserved
loop-symbol-preserved c =
    one_more c.args.n c.loop-symbol.symbol-index c.as_mut_slice-symbol-items.result.now
    c.loop-symbol.symbol-items c.add_to_value.new.symbol _ c.loop-symbol-test.true
    c.loop-symbol.auto.symbol-items c.loop-symbol.invariant c.add_to_value.ensures
