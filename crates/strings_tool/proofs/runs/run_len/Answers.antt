use Rattle.std.proofs.Common.{◌≡◌, ◌+◌, drop, ap, subst, arith, drop-drop}
use Rattle.strings_tool.proofs.RunLemmas.{rest_is, front_len}
use Rattle.strings_tool.proofs.runs.run_len.Goals as goal

pub lanes-preserved : goal.lanes-preserved
lanes-preserved c =
    let i = c.lanes.invariant in
    let at = c.lanes.at in
    let bytes = c.args.bytes.now in
    let on = subst (λ l. front_len l ≡ 64 + front_len (drop 64 l)) (rest_is bytes at) c.in-None.ensures.all in record {
      within = omega (arith, i.within, c.lanes-test.true);
      front = omega (arith, i.front, on, ap front_len (drop-drop 64 at bytes));
    }
