use Rattle.std.specs.Prelude.{codes}
use Rattle.readelf_rows.specs.Fields.{hex_column, decimal_column, row_start}
use Rattle.readelf_tables.specs.RowsOfSymbols.SymbolLines.{symbol_start}
use Rattle.readelf_rows.proofs.FrontLemmas.{precedes_then, precedes_as, three_texts}
use Rattle.readelf_tables.proofs.rows_of_symbols.symbol_lines.write_start.Goals as goal

pub returns-clause-wrote : goal.returns-clause-wrote
unfolding symbol_start
returns-clause-wrote c =
    let x = c.args.x.now in
    precedes_as (three_texts (row_start c.args.i) (hex_column (codes "value") x.value)
    (decimal_column (codes "size") x.size))
    (precedes_then
    (precedes_then c.write_decimal_column-size.ensures.wrote c.write_hex_column-value.ensures.wrote)
    c.write_row_start.ensures.wrote)
