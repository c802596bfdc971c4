use Rattle.std.specs.Prelude.{codes}
use Rattle.readelf_rows.specs.Fields.{name_column}
use Rattle.readelf_rows.proofs.FrontLemmas.{precedes_then, precedes_as, four_texts}
use Rattle.readelf_rows.proofs.fronts.write_name_column.Goals as goal

pub returns-clause-wrote : goal.returns-clause-wrote
unfolding name_column
returns-clause-wrote c =
    let two = precedes_then c.write_name_or_hex-value.ensures.wrote c.write_text-space.ensures in
    let three = precedes_then two c.write_text-words.ensures in
    precedes_as (four_texts (codes " ") c.args.title.now (codes " ") _)
    (precedes_then three c.write_text.ensures)
