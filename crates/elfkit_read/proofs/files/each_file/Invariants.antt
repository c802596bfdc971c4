use Rattle.std.proofs.Common.{map, drop, IsTrue}
use Rattle.tool_output.specs.Files.{report_on, asks_on, all_bounds, Totals, OnlyReads, IsWithinLeft}
use Rattle.tool_output.specs.Reports.{reports_of, UnderWay}
use Rattle.tool_output.specs.Steps.{KeepsSinks}
use Rattle.elfkit_read.proofs.files.each_file.Given as goal

abbrev pub invariant-loop-name : goal.invariant-loop-name
invariant-loop-name g l =
    let named = g.F.Files.named l.initial.files in
    let report = report_on (g.T.FileTool.command l.tool) (g.T.FileTool.report l.tool) named in
    let asks = asks_on (g.T.FileTool.asks l.tool) named in
    record {
      reports : IsTrue (g.F.Files.tells l.initial.files) →
          UnderWay g.O.Sink g.E.Sink l.refused l.initial.outputs l.outputs
          (reports_of report l.names) (reports_of report (drop l.name-index l.names));
      asks : IsTrue (g.F.Files.tells l.initial.files) →
          IsWithinLeft (all_bounds (map asks l.names)) (all_bounds (map asks (drop l.name-index l.names)))
          (g.F.Files.taken l.initial.files) (g.F.Files.taken l.files);
      reads : OnlyReads g.F.Files l.initial.files l.files;
      totals : Totals g.F.Files l.initial.files l.files;
      keeps : KeepsSinks g.O.Sink g.E.Sink l.initial.outputs l.outputs;
    }
