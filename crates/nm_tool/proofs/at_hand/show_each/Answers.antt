use Rattle.std.proofs.Common.{◌+◌, drop, refl, rules}
use Rattle.std.proofs.lemmas.Result.{err_from_is_err_and}
use Rattle.tool_output.specs.Reports.{reports_of}
use Rattle.tool_output.proofs.UnderWayLemmas.{begins, goes_on, stops_at, is_given, reports_left, no_reports_left}
use Rattle.nm_tool.specs.Kept.{held_report}
use Rattle.nm_tool.proofs.at_hand.show_each.Goals as goal

pub loop-k-init : goal.loop-k-init
loop-k-init g c = record {
  rows = λ o s tells. begins g.O.Sink g.E.Sink c.args.outputs.now _;
  keeps = search rules;
}

pub loop-k-preserved : goal.loop-k-preserved
loop-k-preserved g c =
    let f = c.args.form in
    let i = c.loop-k.k-index in record {
      rows = λ o s tells.
          let report = held_report f.options.now f.file.now o s c.args.bytes.strings.now in
          goes_on (c.loop-k.invariant.rows o s tells) _
          (reports_of report (drop (i + 1) c.args.order.now))
          (reports_left report c.args.order.now i _ c.loop-k-test.true (search rules))
          (c.in_ok-was_refused.ensures.reports o s tells) refl;
      keeps = search rules;
    }

pub returns-in_err-was_refused-clause-reports : goal.returns-in_err-was_refused-clause-reports
returns-in_err-was_refused-clause-reports g c = λ o s tells.
    let f = c.args.form in
    let report = held_report f.options.now f.file.now o s c.args.bytes.strings.now in
    let i = c.loop-k.k-index in
    let p = err_from_is_err_and c.from_residual.result c.from_residual.ensures.1 in
    rw (p.1, p.2) (stops_at (c.loop-k.invariant.rows o s tells) _
    (reports_of report (drop (i + 1) c.args.order.now))
    (reports_left report c.args.order.now i _ c.loop-k-test.true (search rules))
    (c.in_err-was_refused.ensures.reports o s tells))

pub returns-clause-reports : goal.returns-clause-reports
returns-clause-reports g c = λ o s tells.
    let f = c.args.form in
    let report = held_report f.options.now f.file.now o s c.args.bytes.strings.now in
    is_given (c.loop-k.invariant.rows o s tells)
    (no_reports_left report c.args.order.now c.loop-k.k-index c.loop-k-test.false)
