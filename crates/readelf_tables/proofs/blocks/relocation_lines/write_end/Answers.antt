use Rattle.readelf_rows.proofs.FrontLemmas.{precedes_then}
use Rattle.readelf_tables.specs.Blocks.RelocationLines.{relocation_end}
use Rattle.readelf_tables.proofs.blocks.relocation_lines.write_end.Goals as goal

pub returns-clause-wrote : goal.returns-clause-wrote
unfolding relocation_end
returns-clause-wrote c =
    let two = precedes_then c.write_text-newline.ensures c.write_addend-addend.ensures.wrote in
    precedes_then two c.write_text.ensures
