use Rattle.std.proofs.Common.{rules, sym, arith}
use Rattle.std.proofs.lemmas.Result.{err_from_is_err_and}
use Rattle.tool_output.proofs.UnderWayLemmas.{begins, line_shown, stops_at, is_given}
use Rattle.readelf_tables.specs.RowsOfSymbols.SymbolBytes.{bytes_row, symbols_of_bytes}
use Rattle.readelf_tables.proofs.rows_of_symbols.RowLemmas.{range_row, range_given, range_done}
use Rattle.readelf_tables.proofs.rows_of_symbols.symbol_bytes.show_one_by_one.Goals as goal

pub loop-i-init : goal.loop-i-init
loop-i-init g c =
    record { lines = begins g.O.Sink g.E.Sink c.args.outputs.now _; keeps = search rules }

pub returns-in-None-clause-reports : goal.returns-in-None-clause-reports
returns-in-None-clause-reports g c =
    let t = c.args.table.now in
    is_given c.loop-i.invariant.lines
    (range_given (bytes_row t.strings.now) (symbols_of_bytes t) c.loop-i.i c.args.to (sym c.in-None.ensures))

pub loop-i-preserved : goal.loop-i-preserved
loop-i-preserved g c =
    let t = c.args.table.now in record {
      lines = line_shown c.loop-i.invariant.lines _ _
          (range_row (bytes_row t.strings.now) (symbols_of_bytes t) c.loop-i.i c.args.to c.in-Some.symbol _
          (omega (arith, c.loop-i-test.true)) (sym c.in-Some.ensures) c.line_of-line.ensures) c.in_ok-show.ensures.reports;
      keeps = search rules;
    }

pub returns-in_err-show-clause-reports : goal.returns-in_err-show-clause-reports
returns-in_err-show-clause-reports g c =
    let t = c.args.table.now in
    let p = err_from_is_err_and c.from_residual.result c.from_residual.ensures.1 in
    rw (p.1, p.2) (stops_at c.loop-i.invariant.lines _ _
    (range_row (bytes_row t.strings.now) (symbols_of_bytes t) c.loop-i.i c.args.to c.in-Some.symbol _
    (omega (arith, c.loop-i-test.true)) (sym c.in-Some.ensures) c.line_of-line.ensures) c.in_err-show.ensures.reports)

pub returns-clause-reports : goal.returns-clause-reports
returns-clause-reports g c =
    let t = c.args.table.now in
    is_given c.loop-i.invariant.lines (range_done (bytes_row t.strings.now) (symbols_of_bytes t)
    c.loop-i.i c.args.to (omega (arith, c.loop-i-test.false)))
