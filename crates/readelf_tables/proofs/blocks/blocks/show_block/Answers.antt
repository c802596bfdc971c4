use Rattle.tool_output.proofs.ReportLemmas.{reports_nothing}
use Rattle.readelf_tables.proofs.blocks.blocks.show_block.Goals as goal

pub returns-in-Err-clause-reports : goal.returns-in-Err-clause-reports
returns-in-Err-clause-reports g c = reports_nothing g.O.Sink g.E.Sink c.args.outputs.now c.want_of.result _
