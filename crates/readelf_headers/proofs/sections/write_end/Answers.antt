use Rattle.readelf_rows.proofs.FrontLemmas.{precedes_then}
use Rattle.readelf_headers.specs.Sections.{section_end}
use Rattle.readelf_headers.proofs.sections.write_end.Goals as goal

pub returns-clause-wrote : goal.returns-clause-wrote
unfolding section_end
returns-clause-wrote c =
    let two = precedes_then c.write_text-newline.ensures c.write_numbers-numbers.ensures.wrote in
    let three = precedes_then two c.write_places-places.ensures.wrote in
    let four = precedes_then three c.write_type-stype.ensures.wrote in
    precedes_then four c.write_text.ensures
