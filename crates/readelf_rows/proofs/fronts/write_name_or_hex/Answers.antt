use Rattle.readelf_rows.specs.Fields.{name_or_hex}
use Rattle.readelf_rows.proofs.FrontLemmas.{precedes_then}
use Rattle.readelf_rows.proofs.fronts.write_name_or_hex.Goals as goal

pub returns-in-None-clause-wrote : goal.returns-in-None-clause-wrote
unfolding name_or_hex
returns-in-None-clause-wrote c =
    rw c.in-None.is (precedes_then c.write_hex-at.ensures.wrote c.write_text-in-None.ensures)
