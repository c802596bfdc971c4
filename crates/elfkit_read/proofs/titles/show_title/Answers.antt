use Rattle.tool_output.proofs.ReportLemmas.{reports_none}
use Rattle.elfkit_read.specs.Titles.{title_report}
use Rattle.elfkit_read.proofs.titles.show_title.Goals as goal

pub returns-in-Untitled-clause-reports : goal.returns-in-Untitled-clause-reports
unfolding title_report
returns-in-Untitled-clause-reports g c = rw c.in-Untitled.is (reports_none g.O.Sink g.E.Sink c.args.outputs.now)
