use Rattle.std.proofs.Common.{◌+◌, drop, refl, sym, subst, rules}
use Rattle.std.proofs.lemmas.Result.{err_from_is_err_and}
use Rattle.elf_object.specs.Object.{Object}
use Rattle.tool_output.specs.Reports.{reports_of}
use Rattle.tool_output.proofs.UnderWayLemmas.{reports_left, no_reports_left}
use Rattle.tool_objects.proofs.ElfSteps.{elf_begins, elf_goes_on, elf_stops_at, elf_is_given}
use Rattle.nm_tool.specs.Tables.{AreTables}
use Rattle.nm_tool.specs.PoolReports.{row_report}
use Rattle.nm_tool.proofs.copied.show_rows.Goals as goal

pub loop-row-init : goal.loop-row-init
loop-row-init g c = elf_begins g.S.Source g.O.Sink g.E.Sink c.args.elf.now c.args.outputs.now _

pub show_row-requires : goal.show_row-requires
show_row-requires g c = subst (λ (o : Object). AreTables o c.args.t) (sym c.loop-row.invariant.elf.object) c.requires

pub loop-row-preserved : goal.loop-row-preserved
loop-row-preserved g c =
    let f = c.args.form in
    let s = c.args.t.symbols.0 in
    let i = c.loop-row.row-index in
    elf_goes_on c.loop-row.invariant _
    (λ o. reports_of (row_report f.options.now f.file.now o s) (drop (i + 1) c.args.rows.now))
    (λ told. reports_left (row_report f.options.now f.file.now c.args.elf.now.o s) c.args.rows.now i _ c.loop-row-test.true (search rules))
    c.in_ok-was_refused.ensures refl

pub returns-in_err-was_refused : goal.returns-in_err-was_refused
returns-in_err-was_refused g c =
    let f = c.args.form in
    let s = c.args.t.symbols.0 in
    let i = c.loop-row.row-index in
    let p = err_from_is_err_and c.from_residual.result c.from_residual.ensures.1 in
    rw (p.1, p.2) (elf_stops_at c.loop-row.invariant _
    (λ o. reports_of (row_report f.options.now f.file.now o s) (drop (i + 1) c.args.rows.now))
    (λ told. reports_left (row_report f.options.now f.file.now c.args.elf.now.o s) c.args.rows.now i _ c.loop-row-test.true (search rules))
    c.in_err-was_refused.ensures)

pub returns : goal.returns
returns g c =
    let f = c.args.form in
    let s = c.args.t.symbols.0 in
    elf_is_given c.loop-row.invariant
    (λ told. no_reports_left (row_report f.options.now f.file.now c.args.elf.now.o s) c.args.rows.now c.loop-row.row-index c.loop-row-test.false)
