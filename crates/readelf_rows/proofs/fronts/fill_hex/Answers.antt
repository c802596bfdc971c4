use Rattle.elf_types.proofs.Hex.{Filling-begin, Filling-next, Filling-end}
use Rattle.readelf_rows.proofs.fronts.fill_hex.Goals as goal

pub loop-left-init : goal.loop-left-init
loop-left-init c = Filling-begin _ _ _ c.ranges.n.fits c.requires c.glyph.ensures

pub loop-left-preserved : goal.loop-left-preserved
loop-left-preserved c =
    Filling-next _ _ _ _ _ c.loop-left.invariant c.loop-left-test.true c.glyph-in-loop-left.ensures

pub returns-clause-digits : goal.returns-clause-digits
returns-clause-digits c = Filling-end _ _ _ _ c.loop-left.invariant c.loop-left-test.false
