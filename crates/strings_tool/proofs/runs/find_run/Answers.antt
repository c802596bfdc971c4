use Rattle.std.proofs.Common.{◌≡◌, ◌+◌, ◌-◌, drop, ap, arith, length-take, length-drop}
use Rattle.strings_tool.proofs.LaneLemmas.{joined_len}
use Rattle.strings_tool.proofs.RunLemmas.{rest_is, front_len, skips_window, window_long}
use Rattle.strings_tool.proofs.runs.find_run.Goals as goal

pub returns-in-Some-2-clause-len : goal.returns-in-Some-2-clause-len
returns-in-Some-2-clause-len c = λ _.
    let bytes = c.args.bytes.now in
    let whole : c.in-Some.i + c.in-Some.len ≡ 64 = omega (arith, c.in-Some.ensures.some.within, c.if-i-len-lt-LANES.false) in
    joined_len c.lanes.at c.in-Some.i c.in-Some.len c.run_len.result bytes (c.in-Some.ensures.some.goes_on whole) c.run_len.ensures.len

pub bytes-preserved : goal.bytes-preserved
bytes-preserved c =
    let i = c.bytes.invariant in
    let last = c.in-Some-last_unprintable.ensures.last in
    let bytes = c.args.bytes.now in record {
      within = omega (arith, last.0, length-take (c.bytes.at + c.args.least - c.bytes.at) (drop c.bytes.at bytes), length-drop c.bytes.at bytes);
      skips = skips_window c.args.least bytes c.bytes.at c.in-Some-last_unprintable.i _ (omega arith) i.skips last.0 last.1;
    }

pub returns-in-None-last_unprintable-clause-long : goal.returns-in-None-last_unprintable-clause-long
returns-in-None-last_unprintable-clause-long c = λ there.
    let bytes = c.args.bytes.now in
    let long = window_long c.args.least (drop c.bytes.at bytes) _ (omega arith) (omega (arith, there, length-drop c.bytes.at bytes)) c.in-None-last_unprintable.ensures.all in
    omega (arith, long, c.run_len-in-None-last_unprintable.ensures.len, ap front_len (rest_is bytes c.bytes.at))
