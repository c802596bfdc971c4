use Rattle.std.proofs.Common.{drop}
use Rattle.tool_output.specs.Reports.{reports_of}
use Rattle.tool_objects.specs.Steps.{ElfUnderWay}
use Rattle.nm_tool.specs.PoolReports.{row_report}
use Rattle.nm_tool.proofs.copied.show_rows.Given as goal

abbrev pub invariant-loop-row : goal.invariant-loop-row
invariant-loop-row g l =
    ElfUnderWay g.S.Source g.O.Sink g.E.Sink l.refused l.initial.elf l.elf l.initial.outputs l.outputs
    (λ o. reports_of (row_report l.form.options.now l.form.file.now o l.t.symbols.0) l.rows)
    (λ o. reports_of (row_report l.form.options.now l.form.file.now o l.t.symbols.0) (drop l.row-index l.rows))
