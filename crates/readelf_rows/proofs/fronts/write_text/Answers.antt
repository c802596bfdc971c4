use Rattle.std.proofs.Common.{arith}
use Rattle.readelf_rows.proofs.FrontLemmas.{text_precedes}
use Rattle.readelf_rows.proofs.fronts.write_text.Goals as goal

pub returns : goal.returns
returns c =
    text_precedes _ _ _ _ _ _ c.as_bytes.ensures.value (omega (arith, c.requires.room)) c.requires.inside
    c.put_over.ensures
