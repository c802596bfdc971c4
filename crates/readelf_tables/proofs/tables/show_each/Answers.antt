use Rattle.std.proofs.Common.{◌+◌, drop, refl, sym, subst, arith}
use Rattle.std.proofs.lemmas.Result.{err_from_is_err_and}
use Rattle.elf_object.specs.Object.{Object}
use Rattle.elf_object.specs.Answers.{items_at}
use Rattle.tool_output.specs.Lines.{numbered_lines}
use Rattle.tool_output.specs.Reports.{shown_report}
use Rattle.tool_output.proofs.UnderWayLemmas.{no_lines_left}
use Rattle.tool_objects.proofs.ElfSteps.{elf_begins, elf_goes_on, elf_stops_at, elf_is_given}
use Rattle.readelf_tables.specs.Tables.{indexed_row, HasRows}
use Rattle.readelf_tables.proofs.TableLemmas.{row_left}
use Rattle.readelf_tables.proofs.tables.show_each.Goals as goal

pub loop-i-init : goal.loop-i-init
loop-i-init g c = elf_begins g.S.Source g.O.Sink g.E.Sink c.args.elf.now c.args.outputs.now _

pub show_row-requires-clause-rows : goal.show_row-requires-clause-rows
show_row-requires-clause-rows g c =
    subst (λ (o : Object). HasRows g.T.Listed.kind g.T.Listed.list_of g.T.TableRow.fits o c.args.table) (sym c.loop-i.invariant.elf.object) c.requires

pub loop-i-preserved : goal.loop-i-preserved
loop-i-preserved g c =
    let s = c.args.table.section.0 in
    let i = c.loop-i.i in
    elf_goes_on c.loop-i.invariant (λ o. shown_report (indexed_row (g.T.TableRow.line o s) (g.T.Listed.list_of (items_at o s 0)) i))
    (λ o. shown_report (numbered_lines (g.T.TableRow.line o s) (i + 1) (drop (i + 1) (g.T.Listed.list_of (items_at o s 0)))))
    (λ told. row_left (g.T.TableRow.line c.args.elf.now.o s) (g.T.Listed.list_of (items_at c.args.elf.now.o s 0)) i (omega (arith, c.requires.count, c.loop-i-test.true)))
    c.in_ok-was_refused.ensures refl

pub returns-in_err-was_refused : goal.returns-in_err-was_refused
returns-in_err-was_refused g c =
    let s = c.args.table.section.0 in
    let i = c.loop-i.i in
    let p = err_from_is_err_and c.from_residual.result c.from_residual.ensures.1 in
    rw (p.1, p.2) (elf_stops_at c.loop-i.invariant (λ o. shown_report (indexed_row (g.T.TableRow.line o s) (g.T.Listed.list_of (items_at o s 0)) i))
    (λ o. shown_report (numbered_lines (g.T.TableRow.line o s) (i + 1) (drop (i + 1) (g.T.Listed.list_of (items_at o s 0)))))
    (λ told. row_left (g.T.TableRow.line c.args.elf.now.o s) (g.T.Listed.list_of (items_at c.args.elf.now.o s 0)) i (omega (arith, c.requires.count, c.loop-i-test.true)))
    c.in_err-was_refused.ensures)

pub returns : goal.returns
returns g c =
    let s = c.args.table.section.0 in
    elf_is_given c.loop-i.invariant
    (λ told. no_lines_left (g.T.TableRow.line c.args.elf.now.o s) (g.T.Listed.list_of (items_at c.args.elf.now.o s 0)) c.loop-i.i (omega (arith, c.requires.count, c.loop-i-test.false)))
