use Rattle.readelf_rows.proofs.FrontLemmas.{precedes_then}
use Rattle.readelf_headers.specs.Sections.{section_front}
use Rattle.readelf_headers.proofs.sections.write_front.Goals as goal

pub returns : goal.returns
unfolding section_front
returns c = precedes_then c.write_text-opened.ensures c.write_row_start.ensures.wrote
