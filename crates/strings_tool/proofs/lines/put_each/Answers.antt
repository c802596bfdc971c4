use Rattle.std.proofs.Common.{◌+◌, ◌-◌, arith}
use Rattle.std.proofs.lemmas.Result.{err_from_is_err_and}
use Rattle.strings_tool.proofs.LineLemmas.{refused_put, last_put, search_within, search_put}
use Rattle.strings_tool.proofs.lines.put_each.Goals as goal

pub returns-then-bytes-start-clause-ok : goal.returns-then-bytes-start-clause-ok
returns-then-bytes-start-clause-ok c =
    let l = c.runs in
    last_put c.args.options.now c.args.at l.used c.args.bytes.now c.args.page.now l.page l.invariant.put c.args.least c.requires.least
    c.find_run-skipped.result.0 l.invariant.within c.find_run-skipped.ensures.skips c.if-bytes-start.true

pub returns-in_err-put_run-clause-err : goal.returns-in_err-put_run-clause-err
returns-in_err-put_run-clause-err c =
    let p = err_from_is_err_and c.from_residual.result c.from_residual.ensures.1 in
    let l = c.runs in
    rw (p.1, p.2) (refused_put c.args.options.now c.args.at l.used c.args.bytes.now c.args.page.now l.page l.invariant.put
    c.in_err-put_run.field-0.0 c.put_run.new.page c.in_err-put_run.ensures.err)

pub runs-preserved : goal.runs-preserved
runs-preserved c =
    let l = c.runs in
    let k = c.find_run-skipped.result.0 in
    let n = c.find_run-skipped.result.1 in
    let next = c.find_run-skipped.ensures in record {
      within = search_within c.args.options.now c.args.at l.used c.args.bytes.now c.args.page.now l.page l.invariant.put c.args.least c.requires.least
          k n l.invariant.within next.within;
      put = search_put c.args.options.now c.args.at l.used c.args.bytes.now c.args.page.now l.page l.invariant.put c.args.least c.requires.least
          k n (l.used + k + n - (l.used + k)) c.put_run.new.page l.invariant.within next.skips next.long next.len
          (omega (arith, c.if-bytes-start.false)) (omega arith) c.in_ok-put_run.ensures.ok;
    }
