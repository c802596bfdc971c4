use Rattle.symbol_hashes.proofs.NumberLemmas.{shifted_out}
use Rattle.symbol_hashes.proofs.blooms.shifted.Goals as goal
use Rattle.std.proofs.Common.{sym, arith}

pub returns-then-shift-ge32 : goal.returns-then-shift-ge32
returns-then-shift-ge32 c = sym (shifted_out c.args.hash c.args.shift (omega (arith, c.ranges.hash.fits)) c.if-shift-ge32.true)
