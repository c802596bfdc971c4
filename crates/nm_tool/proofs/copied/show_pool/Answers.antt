use Rattle.std.proofs.Common.{◌∙◌, ap, sym}
use Rattle.tool_output.specs.Reports.{reports_of}
use Rattle.tool_objects.proofs.ElfSteps.{elf_as}
use Rattle.nm_tool.specs.PoolReports.{row_report, pool_report}
use Rattle.nm_tool.proofs.ToolLemmas.{rows_reported, no_memory}
use Rattle.nm_tool.proofs.copied.show_pool.Goals as goal

pub returns-in-Ok : goal.returns-in-Ok
returns-in-Ok g c =
    let f = c.args.form in
    let s = c.args.t.symbols.0 in
    elf_as g.S.Source g.O.Sink g.E.Sink (λ o. reports_of (row_report f.options.now f.file.now o s) c.as_slice.result.now) (λ o. pool_report f.options.now f.file.now o s c.args.pool.now) _ c.args.elf.now _ c.args.outputs.now _
    (λ told. rows_reported f.options.now f.file.now c.args.elf.now.o s _ _ c.args.pool.now c.in-Ok.ensures.rows c.sorted-rows.ensures
    ∙ ap (reports_of (row_report f.options.now f.file.now c.args.elf.now.o s)) (sym c.as_slice.ensures.value)) c.show_rows.ensures

pub returns-in-Err : goal.returns-in-Err
returns-in-Err g c =
    let f = c.args.form in
    no_memory g.S.Source g.O.Sink g.E.Sink (λ o. pool_report f.options.now f.file.now o c.args.t.symbols.0 c.args.pool.now) c.want_of.result c.args.elf.now c.args.outputs.now c.want_of.ensures
