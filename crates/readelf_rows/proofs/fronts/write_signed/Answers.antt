use Rattle.std.proofs.Common.{to_z-of_z}
use Rattle.readelf_rows.proofs.FrontLemmas.{precedes_then, precedes_as}
use Rattle.readelf_rows.proofs.SignedLemmas.{no_sign, minus_first}
use Rattle.readelf_rows.proofs.fronts.write_signed.Goals as goal

pub returns-then-n-ge0-clause-wrote : goal.returns-then-n-ge0-clause-wrote
returns-then-n-ge0-clause-wrote c =
    let back = to_z-of_z c.ranges.n in
    precedes_as (rw (c.unsigned_abs.ensures.value, back)
    (no_sign c.args.n (rw back at c.if-n-ge0.true)))
    c.write_decimal-digits.ensures.wrote

pub returns-clause-wrote : goal.returns-clause-wrote
returns-clause-wrote c =
    let back = to_z-of_z c.ranges.n in
    precedes_as (rw (c.unsigned_abs.ensures.value, back)
    (minus_first c.args.n (rw back at c.if-n-ge0.false)))
    (precedes_then c.write_decimal-digits.ensures.wrote c.write_text.ensures)
