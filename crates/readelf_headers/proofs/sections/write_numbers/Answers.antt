use Rattle.std.specs.Prelude.{codes}
use Rattle.readelf_rows.specs.Fields.{decimal_column}
use Rattle.readelf_rows.proofs.FrontLemmas.{precedes_then, precedes_as, four_texts}
use Rattle.readelf_headers.specs.Sections.{section_number_columns}
use Rattle.readelf_headers.proofs.sections.write_numbers.Goals as goal

pub returns-clause-wrote : goal.returns-clause-wrote
unfolding section_number_columns
returns-clause-wrote c =
    let h = c.args.h.now in
    let two = precedes_then c.write_entry_size-entsize.ensures.wrote c.write_decimal_column-align.ensures.wrote in
    let three = precedes_then two c.write_decimal_column-info.ensures.wrote in
    rw (← c.from.ensures, ← c.from-2.ensures)
    (precedes_as (four_texts (decimal_column (codes "link") _) (decimal_column (codes "info") _)
    (decimal_column (codes "align") h.addralign) (decimal_column (codes "entsize") h.entsize))
    (precedes_then three c.write_decimal_column.ensures.wrote))
