use Rattle.std.specs.Prelude.{codes, decimal}
use Rattle.readelf_rows.specs.Fields.{decimal_column}
use Rattle.readelf_rows.proofs.FrontLemmas.{precedes_then, precedes_as, four_texts}
use Rattle.readelf_headers.proofs.sections.write_entry_size.Goals as goal

pub returns-clause-wrote : goal.returns-clause-wrote
unfolding decimal_column
returns-clause-wrote c =
    let two = precedes_then c.write_decimal-digits.ensures.wrote c.write_text-space.ensures in
    let three = precedes_then two c.write_text-title.ensures in
    precedes_as (four_texts (codes " ") (codes "entsize") (codes " ") (decimal c.args.n))
    (precedes_then three c.write_text.ensures)
