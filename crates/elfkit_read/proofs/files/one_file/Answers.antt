use Rattle.std.proofs.Common.{rules, ◌∙◌}
use Rattle.tool_output.proofs.FileLemmas.{closed_same, given_same, given_kept, report_absent, opened_reports, opened_asks, within_unchanged}
use Rattle.tool_output.proofs.ReportLemmas.{reports_nothing}
use Rattle.std.proofs.lemmas.Result.{on_ok_weaker}
use Rattle.tool_objects.proofs.ImageLemmas.{on_ok}
use Rattle.elfkit_read.proofs.files.one_file.Goals as goal

pub returns-in-Err-NotThere-clause-reports : goal.returns-in-Err-NotThere-clause-reports
returns-in-Err-NotThere-clause-reports g c = record {
  reports = λ told.
      let t = g.T.FileTool in
      let absent = (c.in-Err-NotThere.ensures.not_there told).0 (search rules) in
      rw (
        report_absent (t.command c.args.tool.now) (t.report c.args.tool.now) (t.asks c.args.tool.now) (g.F.Files.named c.args.files.now) c.args.file_name.now absent,
        ← c.command.ensures,
        ← c.as_bytes-name.ensures.value,
        ← c.of.ensures,
      ) c.refuse.ensures.reports;
  reads = search rules;
  leaves = search rules;
}

pub returns-in-Err-Failed-clause-reports : goal.returns-in-Err-Failed-clause-reports
returns-in-Err-Failed-clause-reports g c = record {
  reports = λ told. reports_nothing g.O.Sink g.E.Sink c.args.outputs.now _ _;
  reads = search rules;
  leaves = search rules;
}

pub returns-in-Err-Memory-clause-reports : goal.returns-in-Err-Memory-clause-reports
returns-in-Err-Memory-clause-reports g c = record {
  reports = λ told. reports_nothing g.O.Sink g.E.Sink c.args.outputs.now _ _;
  reads = search rules;
  leaves = search rules;
}

pub returns-clause-reports : goal.returns-clause-reports
returns-clause-reports g c = record {
  reports = λ told.
      let t = g.T.FileTool in
      opened_reports (t.command c.args.tool.now) (t.report c.args.tool.now) (t.asks c.args.tool.now) (g.F.Files.named c.args.files.now) c.args.file_name.now
      g.O.Sink g.E.Sink _ c.args.outputs.now _ _ (c.in-Ok.ensures.bytes told) (λ none. let h = (c.in-Ok.ensures.not_there told).1 none in cc)
      (rw c.as_bytes-name.ensures.value at c.show-file.ensures.reports.reports);
  reads = record {
    names = λ told. closed_same _ _ _ _ _ _ c.args.file_name.now _ told c.in-Ok.ensures.names c.close.ensures.names
        (c.show-file.ensures.reports.source.same_bytes ∙ c.in-Ok.ensures.bytes told);
    given =
        let rest = g.met.F.File.Device.rest_begins in
        given_kept _ _ _ _ (given_same _ _ _ _ _ _ _ _ (rest c.in-Ok.file) (rest c.show-file.result.0) c.show-file.ensures.reports.source.same_rest ∙ c.in-Ok.ensures.hands.fresh.given)
        c.open.ensures.hands.given c.close.ensures.given;
  };
  leaves = search rules;
}

pub returns-in-Err-NotThere-clause-asks : goal.returns-in-Err-NotThere-clause-asks
returns-in-Err-NotThere-clause-asks g c = λ told.
    on_ok _ _ (within_unchanged _ _ _ c.in-Err-NotThere.ensures.hands.taken)

pub returns-clause-asks : goal.returns-clause-asks
returns-clause-asks g c = λ told.
    let t = g.T.FileTool in
    on_ok_weaker c.show-file.result.1 (λ asked.
    opened_asks (t.command c.args.tool.now) (t.report c.args.tool.now) (t.asks c.args.tool.now) (g.F.Files.named c.args.files.now) c.args.file_name.now
    _ _ _ _ _ (c.in-Ok.ensures.bytes told) (λ none. let h = (c.in-Ok.ensures.not_there told).1 none in cc)
    asked c.open.ensures.hands.taken c.close.ensures.taken.no_more)
    (rw c.in-Ok.ensures.hands.fresh.taken at c.show-file.ensures.asks)
