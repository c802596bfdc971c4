use Rattle.std.proofs.Common.{refl}
use Rattle.std.proofs.lemmas.Result.{err_from_is_err_and}
use Rattle.tool_output.specs.Files.{report_on, asks_on}
use Rattle.tool_output.proofs.FileLemmas.{told_after, only_reads_none, only_reads_then, totals_none, totals_then, leaves_stop, bound_begins, bounds_go_on, bounds_end, report_on_same, asks_on_same}
use Rattle.tool_output.proofs.StepLemmas.{keeps_none, keeps_then}
use Rattle.tool_output.proofs.UnderWayLemmas.{begins, goes_on, stops_at, is_given, reports_left, no_reports_left}
use Rattle.elfkit_read.proofs.files.each_file.Goals as goal

pub loop-name-init : goal.loop-name-init
loop-name-init g c = record {
  reports = λ told. begins g.O.Sink g.E.Sink c.args.outputs.now _;
  asks = λ told. bound_begins _ _;
  reads = only_reads_none g.F.Files g.O.Sink g.E.Sink c.args.files.now;
  totals = totals_none g.F.Files g.O.Sink g.E.Sink c.args.files.now;
  keeps = keeps_none g.O.Sink g.E.Sink c.args.outputs.now;
}

pub loop-name-preserved : goal.loop-name-preserved
loop-name-preserved g c =
    let t = g.T.FileTool in
    let i = c.loop-name.invariant in
    let step = c.in_ok-was_refused.ensures in
    let after = told_after g.F.Files g.O.Sink g.E.Sink _ _ i.reads in record {
      reports = λ told. goes_on (i.reports told) _ _
          (reports_left (report_on (t.command c.args.tool.now) (t.report c.args.tool.now) (g.F.Files.named c.args.files.now)) c.args.names.now c.loop-name.name-index c.name-item.result
          c.loop-name-test.true c.name-item.is)
          (report_on_same g.O.Sink g.E.Sink _ c.loop-name.outputs _ (t.command c.args.tool.now) (t.report c.args.tool.now) _ _ _ _
          ((i.reads.names told).same _) c.as_str.ensures (step.reports.reports (after told)))
          refl;
      asks = λ told. bounds_go_on (asks_on (t.asks c.args.tool.now) (g.F.Files.named c.args.files.now)) _ c.args.names.now _ _ _ c.loop-name.name-index c.name-item.result
          c.loop-name-test.true c.name-item.is (i.asks told)
          (asks_on_same (t.asks c.args.tool.now) _ _ _ _ _ _ ((i.reads.names told).same _) c.as_str.ensures (step.asks (after told)));
      reads = only_reads_then g.F.Files g.O.Sink g.E.Sink _ _ _ i.reads step.reports.reads;
      totals = totals_then g.F.Files g.O.Sink g.E.Sink _ _ _ i.totals step.reports.leaves.totals;
      keeps = keeps_then g.O.Sink g.E.Sink _ _ _ i.keeps step.reports.leaves.keeps;
    }

pub returns-in_err-was_refused-clause-reports : goal.returns-in_err-was_refused-clause-reports
returns-in_err-was_refused-clause-reports g c =
    let t = g.T.FileTool in
    let i = c.loop-name.invariant in
    let step = c.in_err-was_refused.ensures in
    let after = told_after g.F.Files g.O.Sink g.E.Sink _ _ i.reads in
    let p = err_from_is_err_and c.from_residual.result c.from_residual.ensures.1 in
    rw (p.1, p.2) (record {
      reports = λ told. stops_at (i.reports told) _ _
          (reports_left (report_on (t.command c.args.tool.now) (t.report c.args.tool.now) (g.F.Files.named c.args.files.now)) c.args.names.now c.loop-name.name-index c.name-item.result
          c.loop-name-test.true c.name-item.is)
          (report_on_same g.O.Sink g.E.Sink _ c.loop-name.outputs _ (t.command c.args.tool.now) (t.report c.args.tool.now) _ _ _ _
          ((i.reads.names told).same _) c.as_str.ensures (step.reports.reports (after told)));
      reads = only_reads_then g.F.Files g.O.Sink g.E.Sink _ _ _ i.reads step.reports.reads;
      leaves = leaves_stop g.F.Files g.O.Sink g.E.Sink _ _ _ _ _ _ _ i.totals i.keeps step.reports.leaves;
    })

pub returns-clause-reports : goal.returns-clause-reports
returns-clause-reports g c = record {
  reports = λ told. is_given (c.loop-name.invariant.reports told) (no_reports_left _ c.args.names.now c.loop-name.name-index c.loop-name-test.false);
  reads = c.loop-name.invariant.reads;
  leaves = record { totals = c.loop-name.invariant.totals; keeps = c.loop-name.invariant.keeps; read = tt; write = tt };
}

pub returns-clause-asks : goal.returns-clause-asks
returns-clause-asks g c = λ told.
    bounds_end _ _ c.args.names.now _ _ c.loop-name.name-index c.loop-name-test.false (c.loop-name.invariant.asks told)
