use Rattle.std.proofs.Common.{◌+◌, ◌-◌, drop, refl, sym, arith}
use Rattle.std.proofs.lemmas.Result.{err_from_is_err_and}
use Rattle.strings_tool.proofs.LineLemmas.{skipped_put, refused_put, over_put, block_put, block_left}
use Rattle.strings_tool.proofs.lines.put_block.Goals as goal

pub returns-in-None-clause-ok : goal.returns-in-None-clause-ok
returns-in-None-clause-ok c =
    let l = c.runs in
    skipped_put c.args.options.now c.args.at l.used c.args.bytes.now c.args.page.now l.page l.invariant.put c.args.least c.requires.least
    (64 - l.used + 1 - c.args.least) c.passed_len.result (c.in-None.ensures.none (64 - l.used) (drop l.used c.args.bytes.now) l.invariant.shown)
    (sym c.passed_len.ensures)

pub returns-in_err-put_run-in-Some-clause-err : goal.returns-in_err-put_run-in-Some-clause-err
returns-in_err-put_run-in-Some-clause-err c =
    let p = err_from_is_err_and c.from_residual.result c.from_residual.ensures.1 in
    let l = c.runs in
    rw (p.1, p.2) (refused_put c.args.options.now c.args.at l.used c.args.bytes.now c.args.page.now l.page l.invariant.put
    c.in_err-put_run-in-Some.field-0.0 c.put_run.new.page c.in_err-put_run-in-Some.ensures.err)

pub returns-then-start-len-ge-LANES-clause-ok : goal.returns-then-start-len-ge-LANES-clause-ok
returns-then-start-len-ge-LANES-clause-ok c =
    let l = c.runs in
    let run = c.in-Some.ensures.some (64 - l.used) (drop l.used c.args.bytes.now) l.invariant.shown in
    over_put c.args.options.now c.args.at l.used c.args.bytes.now c.args.page.now l.page l.invariant.put c.args.least c.requires.least
    l.mask l.invariant.shown c.in-Some.from c.in-Some.len run c.run_len-end.result (64 + c.run_len-end.result - (l.used + c.in-Some.from))
    c.put_run.new.page l.invariant.within c.if-start-len-ge-LANES.true c.run_len-end.ensures.len refl c.in_ok-put_run-in-Some.ensures.ok

pub returns-in_err-put_run-in-Some-2-clause-err : goal.returns-in_err-put_run-in-Some-2-clause-err
returns-in_err-put_run-in-Some-2-clause-err c =
    let p = err_from_is_err_and c.from_residual-in_err-put_run-in-Some-2.result c.from_residual-in_err-put_run-in-Some-2.ensures.1 in
    let l = c.runs in
    rw (p.1, p.2) (refused_put c.args.options.now c.args.at l.used c.args.bytes.now c.args.page.now l.page l.invariant.put
    c.in_err-put_run-in-Some-2.field-0.0 c.put_run-in-Some.new.page c.in_err-put_run-in-Some-2.ensures.err)

pub runs-preserved : goal.runs-preserved
runs-preserved c =
    let l = c.runs in
    let from = c.in-Some.from in
    let len = c.in-Some.len in
    let inside = c.if-start-len-ge-LANES.false in
    let run = c.in-Some.ensures.some (64 - l.used) (drop l.used c.args.bytes.now) l.invariant.shown in record {
      within = omega (arith, inside);
      shown = block_left c.args.options.now c.args.at l.used c.args.bytes.now c.args.page.now l.page l.invariant.put c.args.least c.requires.least
          l.mask l.invariant.shown from len run (omega (arith, inside));
      put = block_put c.args.options.now c.args.at l.used c.args.bytes.now c.args.page.now l.page l.invariant.put c.args.least c.requires.least
          l.mask l.invariant.shown from len run (l.used + from + len - (l.used + from)) c.put_run-in-Some.new.page (omega (arith, inside))
          (omega arith) c.in_ok-put_run-in-Some-2.ensures.ok;
    }
