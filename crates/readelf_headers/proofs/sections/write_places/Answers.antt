use Rattle.std.specs.Prelude.{codes}
use Rattle.readelf_rows.specs.Fields.{hex_column}
use Rattle.readelf_rows.proofs.FrontLemmas.{precedes_then, precedes_as, four_texts}
use Rattle.readelf_headers.specs.Sections.{section_places}
use Rattle.readelf_headers.proofs.sections.write_places.Goals as goal

pub returns-clause-wrote : goal.returns-clause-wrote
unfolding section_places
returns-clause-wrote c =
    let h = c.args.h.now in
    let two = precedes_then c.write_hex_column-size.ensures.wrote c.write_hex_column-offset.ensures.wrote in
    let three = precedes_then two c.write_hex_column-addr.ensures.wrote in
    precedes_as (four_texts (hex_column (codes "flags") h.flags) (hex_column (codes "addr") h.addr)
    (hex_column (codes "offset") h.offset) (hex_column (codes "size") h.size))
    (precedes_then three c.write_hex_column.ensures.wrote)
