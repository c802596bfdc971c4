use Rattle.readelf_tables.specs.RowsOfSymbols.Fronts.{symbol_front}
use Rattle.readelf_rows.proofs.FrontLemmas.{precedes_then}
use Rattle.readelf_tables.proofs.rows_of_symbols.symbol_lines.write_front.Goals as goal

pub returns : goal.returns
unfolding symbol_front
returns c =
    let two = precedes_then c.write_text-opened.ensures c.write_place-place.ensures.wrote in
    let three = precedes_then two c.write_text-index.ensures in
    let four = precedes_then three c.write_names-names.ensures.wrote in
    precedes_then four c.write_start.ensures.wrote
