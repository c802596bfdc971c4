use Rattle.std.proofs.Common.{arith}
use Rattle.tool_output.proofs.columns.DigitLemmas.{Filling-begin, falls, Filling-next, Filling-end, front_before_digit}
use Rattle.tool_output.proofs.columns.digits.fill.Goals as goal

pub loop-wide-init : goal.loop-wide-init
loop-wide-init g c = Filling-begin g.row.BASE c.requires.base.0 _ _ c.ranges.n.fits c.requires.len

pub loop-wide-preserved : goal.loop-wide-preserved
loop-wide-preserved g c =
    Filling-next g.row.BASE c.requires.base.0 _ _ _ _ _ _ c.loop-wide.invariant (omega (arith, c.loop-wide-test.true, c.requires.base.1)) c.glyph.ensures

pub loop-wide-smaller : goal.loop-wide-smaller
loop-wide-smaller g c = falls g.row.BASE c.requires.base.0 _ (omega (arith, c.loop-wide-test.true, c.requires.base.1))

pub loop-left-preserved : goal.loop-left-preserved
loop-left-preserved g c =
    Filling-next g.row.BASE c.requires.base.0 _ _ _ _ _ _ c.loop-left.invariant c.loop-left-test.true c.glyph-in-loop-left.ensures

pub loop-left-smaller : goal.loop-left-smaller
loop-left-smaller g c = falls g.row.BASE c.requires.base.0 _ c.loop-left-test.true

pub returns-clause-digits : goal.returns-clause-digits
returns-clause-digits g c = Filling-end g.row.BASE c.requires.base.0 _ _ _ _ _ _ c.loop-left.invariant c.loop-left-test.false c.glyph-2.ensures

pub returns-clause-front : goal.returns-clause-front
returns-clause-front g c = front_before_digit _ _ _ _ c.loop-left.invariant.front
