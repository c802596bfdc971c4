use Rattle.std.proofs.Common.{◌+◌, drop, refl, sym, subst, arith}
use Rattle.std.proofs.lemmas.Result.{err_from_is_err_and}
use Rattle.elf_types.specs.declared.records.Kind.TheVariants as kinds
use Rattle.elf_object.specs.Object.{Object}
use Rattle.elf_object.specs.Answers.{items_at, syms_of}
use Rattle.tool_output.specs.Lines.{numbered_lines}
use Rattle.tool_output.specs.Reports.{shown_report}
use Rattle.tool_output.proofs.UnderWayLemmas.{no_lines_left}
use Rattle.tool_objects.proofs.ElfSteps.{elf_begins, elf_goes_on, elf_stops_at, elf_is_given}
use Rattle.tool_objects.proofs.at_hand.Ends.{end_stays}
use Rattle.readelf_tables.specs.Tables.{indexed_row, HasRows}
use Rattle.readelf_tables.specs.Symbols.{symbol_row, SymbolsFit}
use Rattle.readelf_tables.proofs.TableLemmas.{row_left}
use Rattle.readelf_tables.proofs.symbols.show_each_row.Goals as goal

pub loop-i-init : goal.loop-i-init
loop-i-init g c =
    elf_begins g.S.Source g.O.Sink g.E.Sink c.args.elf.now c.args.outputs.now _

pub show_row_at-requires-clause-rows : goal.show_row_at-requires-clause-rows
show_row_at-requires-clause-rows g c =
    subst (λ (o : Object). HasRows kinds.Sym syms_of SymbolsFit o c.args.table)
    (sym c.loop-i.invariant.elf.object) c.requires.rows

pub show_row_at-requires-clause-end : goal.show_row_at-requires-clause-end
show_row_at-requires-clause-end g c =
    end_stays g.S.Source c.args.elf.now c.loop-i.elf c.args.table.links.linked.0 c.args.end
    c.loop-i.invariant.elf c.requires.end

pub loop-i-preserved : goal.loop-i-preserved
loop-i-preserved g c =
    let s = c.args.table.section.0 in
    let i = c.loop-i.i in
    let xs = syms_of (items_at c.args.elf.now.o s 0) in
    elf_goes_on c.loop-i.invariant
    (λ o. shown_report (indexed_row (symbol_row o s) (syms_of (items_at o s 0)) i))
    (λ o. shown_report (numbered_lines (symbol_row o s) (i + 1) (drop (i + 1) (syms_of (items_at o s 0)))))
    (λ told. row_left (symbol_row c.args.elf.now.o s) xs i
    (omega (arith, c.requires.rows.count, c.loop-i-test.true)))
    c.in_ok-was_refused.ensures refl

pub returns-in_err-was_refused : goal.returns-in_err-was_refused
returns-in_err-was_refused g c =
    let s = c.args.table.section.0 in
    let i = c.loop-i.i in
    let xs = syms_of (items_at c.args.elf.now.o s 0) in
    let p = err_from_is_err_and c.from_residual.result c.from_residual.ensures.1 in
    rw (p.1, p.2) (elf_stops_at c.loop-i.invariant
    (λ o. shown_report (indexed_row (symbol_row o s) (syms_of (items_at o s 0)) i))
    (λ o. shown_report (numbered_lines (symbol_row o s) (i + 1) (drop (i + 1) (syms_of (items_at o s 0)))))
    (λ told. row_left (symbol_row c.args.elf.now.o s) xs i
    (omega (arith, c.requires.rows.count, c.loop-i-test.true)))
    c.in_err-was_refused.ensures)

pub returns : goal.returns
returns g c =
    let s = c.args.table.section.0 in
    elf_is_given c.loop-i.invariant
    (λ told. no_lines_left (symbol_row c.args.elf.now.o s) (syms_of (items_at c.args.elf.now.o s 0))
    c.loop-i.i (omega (arith, c.requires.rows.count, c.loop-i-test.false)))
