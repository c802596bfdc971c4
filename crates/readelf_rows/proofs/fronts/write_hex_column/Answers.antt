use Rattle.std.specs.Prelude.{codes}
use Rattle.elf_types.specs.Text.{hex}
use Rattle.readelf_rows.specs.Fields.{hex_column}
use Rattle.readelf_rows.proofs.FrontLemmas.{precedes_then, precedes_as, four_texts}
use Rattle.readelf_rows.proofs.fronts.write_hex_column.Goals as goal

pub returns-clause-wrote : goal.returns-clause-wrote
unfolding hex_column
returns-clause-wrote c =
    let two = precedes_then c.write_hex-digits.ensures.wrote c.write_text-radix.ensures in
    let three = precedes_then two c.write_text-title.ensures in
    precedes_as (four_texts (codes " ") c.args.name.now (codes " 0x") (hex c.args.n))
    (precedes_then three c.write_text.ensures)
