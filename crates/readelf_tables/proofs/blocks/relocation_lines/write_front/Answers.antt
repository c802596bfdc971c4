use Rattle.readelf_rows.proofs.FrontLemmas.{precedes_then}
use Rattle.readelf_tables.specs.Blocks.RelocationLines.{relocation_front}
use Rattle.readelf_tables.proofs.blocks.relocation_lines.write_front.Goals as goal

pub returns : goal.returns
unfolding relocation_front
returns c =
    let two = precedes_then c.write_text-opened.ensures c.write_decimal_column-symbol.ensures.wrote in
    let three = precedes_then two c.write_decimal_column-kind.ensures.wrote in
    let four = precedes_then three c.write_hex_column-offset.ensures.wrote in
    rw (← c.from.ensures, ← c.from-2.ensures) (precedes_then four c.write_row_start.ensures.wrote)
