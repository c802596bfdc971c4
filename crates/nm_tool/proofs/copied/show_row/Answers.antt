use Rattle.std.proofs.Common.{Some, None, refl, sym, subst}
use Rattle.std.specs.Prelude.{slice_get}
use Rattle.elf_object.specs.Object.{Object}
use Rattle.tool_output.specs.Reports.{no_report}
use Rattle.tool_objects.proofs.ElfSteps.{elf_left, elf_says_none, elf_learns, elf_learns_none}
use Rattle.nm_tool.specs.Listed.{symbols_in_table}
use Rattle.nm_tool.specs.Tables.{AreTables}
use Rattle.nm_tool.specs.Tool.{symbol_report, symbol_entry_report}
use Rattle.nm_tool.specs.PoolReports.{row_report}
use Rattle.nm_tool.proofs.copied.show_row.Goals as goal

pub show_placed-requires : goal.show_placed-requires
show_placed-requires g c = subst (λ (o : Object). AreTables o c.args.t) (sym c.in-Ok-Some.ensures.reads.elf.object) c.requires

pub returns-in-Ok-Some : goal.returns-in-Ok-Some
unfolding symbol_entry_report row_report
returns-in-Ok-Some g c =
    let f = c.args.form in
    let row = c.args.row.now in
    let s = c.args.t.symbols.0 in
    elf_learns g.S.Source g.O.Sink g.E.Sink (λ o. slice_get (symbols_in_table o s) row.index) c.args.elf.now _ (Some c.in-Ok-Some.symbol)
    (λ v o. symbol_report f.options.now f.file.now o s row.index row.name.now v) _ _ c.args.outputs.now _ (rw c.in-Ok-Some.field-0-is at c.in-Ok-Some.ensures) c.show_placed.ensures

pub returns-in-Ok-None : goal.returns-in-Ok-None
unfolding symbol_entry_report row_report
returns-in-Ok-None g c =
    let f = c.args.form in
    let row = c.args.row.now in
    let s = c.args.t.symbols.0 in
    elf_learns g.S.Source g.O.Sink g.E.Sink (λ o. slice_get (symbols_in_table o s) row.index) c.args.elf.now _ None
    (λ v o. symbol_report f.options.now f.file.now o s row.index row.name.now v) _ _ c.args.outputs.now _ (rw c.in-Ok-None.field-0-is at c.in-Ok-None.ensures)
    (elf_says_none g.S.Source g.O.Sink g.E.Sink (λ o. no_report) _ _ _ (elf_left g.S.Source _) (λ told. refl))

pub returns-in-Err : goal.returns-in-Err
returns-in-Err g c =
    let f = c.args.form in
    let row = c.args.row.now in
    let s = c.args.t.symbols.0 in
    elf_learns_none g.S.Source g.O.Sink g.E.Sink (λ o. slice_get (symbols_in_table o s) row.index) c.args.elf.now _ c.in-Err.stop
    (λ o. row_report f.options.now f.file.now o s row) c.args.outputs.now c.in-Err.ensures
