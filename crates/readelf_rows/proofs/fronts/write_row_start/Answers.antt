use Rattle.readelf_rows.specs.Fields.{row_start}
use Rattle.readelf_rows.proofs.FrontLemmas.{precedes_then}
use Rattle.readelf_rows.proofs.fronts.write_row_start.Goals as goal

pub returns-clause-wrote : goal.returns-clause-wrote
unfolding row_start
returns-clause-wrote c = precedes_then c.write_decimal-digits.ensures.wrote c.write_text.ensures
