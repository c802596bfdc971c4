use Rattle.std.proofs.Common.{◌≡◌, ◌++◌, ◌+◌, ◌-◌, List, ℕ, sym, ap, ◌∙◌, arith}
use Rattle.readelf_rows.proofs.FrontLemmas.{stands_before, begins_inside}
use Rattle.readelf_tables.specs.RowsOfSymbols.SymbolBytes.{bytes_row, symbols_of_bytes, symbol_rows}
use Rattle.readelf_tables.proofs.rows_of_symbols.RowLemmas.{range_more, range_ends}
use Rattle.std.proofs.Math.Seq.{drop-length}
use Rattle.readelf_tables.proofs.rows_of_symbols.symbol_bytes.write_rows.Goals as goal

pub loop-i-init : goal.loop-i-init
loop-i-init c =
    let t = c.args.table.now in record {
      inside = omega arith;
      below = c.requires.order;
      within = omega arith;
      wrote = drop-length c.args.buffer.now
          ∙ sym (range_ends (bytes_row t.strings.now) (symbols_of_bytes t) c.args.to c.args.to (omega arith));
    }

pub loop-i-preserved : goal.loop-i-preserved
loop-i-preserved c =
    let t = c.args.table.now in
    let row = bytes_row t.strings.now in
    let i = c.loop-i.i in
    let next : i - 1 + 1 ≡ i = omega (arith, c.loop-i-test.true) in record {
      inside = begins_inside c.in_ok-at.ensures c.loop-i.invariant.inside;
      below = omega (arith, c.loop-i-test.true);
      within = omega (arith, c.loop-i.invariant.within);
      wrote = stands_before c.in_ok-at.ensures c.loop-i.invariant.wrote
          ∙ ap (λ (l : List ℕ). l ++ symbol_rows t i c.args.to) c.line_of-line.ensures
          ∙ ap (λ (n : ℕ). row (i - 1) c.in_ok-symbol.symbol ++ symbol_rows t n c.args.to) (sym next)
          ∙ sym (range_more row (symbols_of_bytes t) (i - 1) c.args.to c.in_ok-symbol.symbol
          (omega (arith, c.loop-i-test.true, c.loop-i.invariant.within))
          (sym c.in_ok-symbol.ensures));
    }
