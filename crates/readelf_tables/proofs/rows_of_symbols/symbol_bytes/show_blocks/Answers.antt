use Rattle.std.proofs.Common.{rules, arith}
use Rattle.std.proofs.lemmas.Result.{err_from_is_err_and}
use Rattle.tool_output.proofs.UnderWayLemmas.{begins, line_shown, stops_at, is_given, no_lines_left}
use Rattle.readelf_tables.specs.RowsOfSymbols.SymbolBytes.{bytes_row, symbols_of_bytes}
use Rattle.readelf_tables.proofs.rows_of_symbols.RowLemmas.{range_left}
use Rattle.readelf_tables.proofs.rows_of_symbols.symbol_bytes.show_blocks.Goals as goal

pub loop-from-init : goal.loop-from-init
loop-from-init g c =
    record { lines = begins g.O.Sink g.E.Sink c.args.outputs.now _; keeps = search rules }

pub loop-from-preserved : goal.loop-from-preserved
loop-from-preserved g c =
    let t = c.args.table.now in record {
      lines = line_shown c.loop-from.invariant.lines _ _
          (range_left (bytes_row t.strings.now) (symbols_of_bytes t) c.loop-from.from c.next_block-to.result
          (omega (arith, c.next_block-to.ensures.later))) c.in_ok-show_range.ensures.reports;
      keeps = search rules;
    }

pub returns-in_err-show_range-clause-reports : goal.returns-in_err-show_range-clause-reports
returns-in_err-show_range-clause-reports g c =
    let t = c.args.table.now in
    let p = err_from_is_err_and c.from_residual.result c.from_residual.ensures.1 in
    rw (p.1, p.2) (stops_at c.loop-from.invariant.lines _ _
    (range_left (bytes_row t.strings.now) (symbols_of_bytes t) c.loop-from.from c.next_block-to.result
    (omega (arith, c.next_block-to.ensures.later))) c.in_err-show_range.ensures.reports)

pub returns-clause-reports : goal.returns-clause-reports
returns-clause-reports g c =
    let t = c.args.table.now in
    is_given c.loop-from.invariant.lines (no_lines_left (bytes_row t.strings.now) (symbols_of_bytes t)
    c.loop-from.from (omega (arith, c.loop-from-test.false, c.most_items-count.ensures.items)))
