use Rattle.std.proofs.Common.{arith}
use Rattle.readelf_rows.proofs.FrontLemmas.{over_precedes}
use Rattle.readelf_rows.proofs.fronts.write_bytes.Goals as goal

pub returns : goal.returns
returns c =
    over_precedes _ _ _ _ _ (omega (arith, c.requires.room)) c.requires.inside c.put_over.ensures
