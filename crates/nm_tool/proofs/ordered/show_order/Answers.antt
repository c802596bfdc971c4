use Rattle.std.proofs.Common.{◌+◌, drop, refl, sym, subst, rules}
use Rattle.std.proofs.lemmas.Result.{err_from_is_err_and}
use Rattle.elf_object.specs.Object.{Object}
use Rattle.tool_output.specs.Reports.{reports_of}
use Rattle.tool_output.proofs.UnderWayLemmas.{reports_left, no_reports_left}
use Rattle.tool_objects.proofs.ElfSteps.{elf_begins, elf_goes_on, elf_stops_at, elf_is_given}
use Rattle.tool_objects.proofs.at_hand.Ends.{end_stays}
use Rattle.nm_tool.specs.Tables.{AreTables}
use Rattle.nm_tool.specs.Kept.{kept_report}
use Rattle.nm_tool.proofs.ordered.show_order.Goals as goal

pub loop-k-init : goal.loop-k-init
loop-k-init g c =
    elf_begins g.S.Source g.O.Sink g.E.Sink c.args.elf.now c.args.outputs.now _

pub show_one-requires-clause-tables : goal.show_one-requires-clause-tables
show_one-requires-clause-tables g c =
    subst (λ (o : Object). AreTables o c.args.t) (sym c.loop-k.invariant.elf.object)
    c.requires.tables

pub show_one-requires-clause-end : goal.show_one-requires-clause-end
show_one-requires-clause-end g c =
    end_stays g.S.Source c.args.elf.now c.loop-k.elf c.args.t.names.0 c.args.end
    c.loop-k.invariant.elf c.requires.end

pub loop-k-preserved : goal.loop-k-preserved
loop-k-preserved g c =
    let f = c.args.form in
    let s = c.args.t.symbols.0 in
    let i = c.loop-k.k-index in
    elf_goes_on c.loop-k.invariant _
    (λ o. reports_of (kept_report f.options.now f.file.now o s) (drop (i + 1) c.args.order.now))
    (λ told. reports_left (kept_report f.options.now f.file.now c.args.elf.now.o s)
    c.args.order.now i _ c.loop-k-test.true (search rules))
    c.in_ok-was_refused.ensures refl

pub returns-in_err-was_refused : goal.returns-in_err-was_refused
returns-in_err-was_refused g c =
    let f = c.args.form in
    let s = c.args.t.symbols.0 in
    let i = c.loop-k.k-index in
    let p = err_from_is_err_and c.from_residual.result c.from_residual.ensures.1 in
    rw (p.1, p.2) (elf_stops_at c.loop-k.invariant _
    (λ o. reports_of (kept_report f.options.now f.file.now o s) (drop (i + 1) c.args.order.now))
    (λ told. reports_left (kept_report f.options.now f.file.now c.args.elf.now.o s)
    c.args.order.now i _ c.loop-k-test.true (search rules))
    c.in_err-was_refused.ensures)

pub returns : goal.returns
returns g c =
    let f = c.args.form in
    let s = c.args.t.symbols.0 in
    elf_is_given c.loop-k.invariant
    (λ told. no_reports_left (kept_report f.options.now f.file.now c.args.elf.now.o s)
    c.args.order.now c.loop-k.k-index c.loop-k-test.false)
