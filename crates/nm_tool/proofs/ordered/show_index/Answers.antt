use Rattle.std.proofs.Common.{Some, None, refl, sym, subst}
use Rattle.std.specs.Prelude.{slice_get}
use Rattle.elf_object.specs.Object.{Object}
use Rattle.tool_output.specs.Reports.{no_report}
use Rattle.tool_objects.proofs.ElfSteps.{elf_left, elf_says_none, elf_learns, elf_learns_none}
use Rattle.tool_objects.proofs.at_hand.Ends.{end_stays}
use Rattle.nm_tool.specs.Listed.{symbols_in_table}
use Rattle.nm_tool.specs.Kept.{row_if, index_report}
use Rattle.nm_tool.specs.Tables.{AreTables}
use Rattle.nm_tool.proofs.ordered.show_index.Goals as goal

pub show_looked-requires-clause-tables : goal.show_looked-requires-clause-tables
show_looked-requires-clause-tables g c =
    subst (λ (o : Object). AreTables o c.args.t) (sym c.in-Ok-Some.ensures.reads.elf.object)
    c.requires.tables

pub show_looked-requires-clause-end : goal.show_looked-requires-clause-end
show_looked-requires-clause-end g c =
    let known = rw c.in-Ok-Some.field-0-is at c.in-Ok-Some.ensures in
    end_stays g.S.Source c.args.elf.now c.symbol_at.new.elf c.args.t.names.0 c.args.end
    known.reads.elf c.requires.end

pub returns-in-Ok-Some : goal.returns-in-Ok-Some
unfolding index_report
returns-in-Ok-Some g c =
    let f = c.args.form in
    let s = c.args.t.symbols.0 in
    let i = c.args.i in
    elf_learns g.S.Source g.O.Sink g.E.Sink (λ o. slice_get (symbols_in_table o s) i) c.args.elf.now _
    (Some c.in-Ok-Some.symbol) (λ v o. row_if f.options.now f.file.now o s i v) _ _
    c.args.outputs.now _ (rw c.in-Ok-Some.field-0-is at c.in-Ok-Some.ensures)
    c.show_looked.ensures

pub returns-in-Ok-None : goal.returns-in-Ok-None
unfolding index_report
returns-in-Ok-None g c =
    let f = c.args.form in
    let s = c.args.t.symbols.0 in
    let i = c.args.i in
    elf_learns g.S.Source g.O.Sink g.E.Sink (λ o. slice_get (symbols_in_table o s) i) c.args.elf.now _ None
    (λ v o. row_if f.options.now f.file.now o s i v) _ _ c.args.outputs.now _
    (rw c.in-Ok-None.field-0-is at c.in-Ok-None.ensures)
    (elf_says_none g.S.Source g.O.Sink g.E.Sink (λ o. no_report) _ _ _ (elf_left g.S.Source _)
    (λ told. refl))

pub returns-in-Err : goal.returns-in-Err
returns-in-Err g c =
    let f = c.args.form in
    let s = c.args.t.symbols.0 in
    elf_learns_none g.S.Source g.O.Sink g.E.Sink (λ o. slice_get (symbols_in_table o s) c.args.i)
    c.args.elf.now _ c.in-Err.stop (λ o. index_report f.options.now f.file.now o s c.args.i)
    c.args.outputs.now c.in-Err.ensures
