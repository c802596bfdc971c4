use Rattle.readelf_rows.proofs.FrontLemmas.{precedes_as}
use Rattle.readelf_tables.proofs.rows_of_symbols.symbol_lines.write_names.Goals as goal

pub returns-in-Some-clause-wrote : goal.returns-in-Some-clause-wrote
returns-in-Some-clause-wrote c = precedes_as c.in-Some.ensures.names c.write_text.ensures
