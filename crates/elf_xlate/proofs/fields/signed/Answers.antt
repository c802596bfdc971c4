-- Two's complement of the width of the class.
use Rattle.std.proofs.Common.{not, ap}
use Rattle.std.proofs.lemmas.Bool.{eq-eqb, ne_eqb}
use Rattle.elf_xlate.proofs.Signed.{broad_value, broad_fits, narrow_below, narrow_value, narrow_fits}
use Rattle.elf_xlate.proofs.fields.signed.Goals as goal

pub returns-then-this-ne0-clause-fits : goal.returns-then-this-ne0-clause-fits
returns-then-this-ne0-clause-fits g c = broad_fits _ _ (ap not (ne_eqb _ _ c.if-this-ne0.true))

pub returns-then-this-ne0-clause-value : goal.returns-then-this-ne0-clause-value
returns-then-this-ne0-clause-value g c =
    broad_value _ c.args.n _ (ap not (ne_eqb _ _ c.if-this-ne0.true)) c.ranges.n.fits
    c.cast_signed.ensures

pub returns-else-this-ne0-clause-fits : goal.returns-else-this-ne0-clause-fits
returns-else-this-ne0-clause-fits g c =
    let narrow = ap not (eq-eqb _ _ c.if-this-ne0.false) in
    narrow_fits _ c.args.n _ _ narrow (narrow_below _ c.args.n narrow c.requires)
    c.cast_signed-narrow.ensures c.from.ensures

pub returns-else-this-ne0-clause-value : goal.returns-else-this-ne0-clause-value
returns-else-this-ne0-clause-value g c =
    let narrow = ap not (eq-eqb _ _ c.if-this-ne0.false) in
    narrow_value _ c.args.n _ _ narrow (narrow_below _ c.args.n narrow c.requires)
    c.cast_signed-narrow.ensures c.from.ensures
