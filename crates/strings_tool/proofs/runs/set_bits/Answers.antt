use Rattle.std.proofs.Common.{arith, w64}
use Rattle.std.proofs.lemmas.Nat.Bits.{bit_at-trailing_zeros}
use Rattle.strings_tool.proofs.LaneLemmas.{clear_from, all_set, set_before, set_within, clear_there}
use Rattle.strings_tool.proofs.runs.set_bits.Goals as goal

pub returns-then-clear-eq0-clause-set : goal.returns-then-clear-eq0-clause-set
returns-then-clear-eq0-clause-set c = all_set c.args.mask c.args.from c.ranges.mask.fits c.requires (omega (arith, c.if-clear-eq0.true))

pub returns-clause-within : goal.returns-clause-within
returns-clause-within c =
    let low = bit_at-trailing_zeros w64 (clear_from c.args.mask c.args.from c.ranges.mask.fits c.requires) (omega (arith, c.if-clear-eq0.false)) (omega arith) in
    set_within c.args.mask c.args.from c.ranges.mask.fits c.requires _ low.0 low.1 low.2

pub returns-clause-set : goal.returns-clause-set
returns-clause-set c =
    let low = bit_at-trailing_zeros w64 (clear_from c.args.mask c.args.from c.ranges.mask.fits c.requires) (omega (arith, c.if-clear-eq0.false)) (omega arith) in
    set_before c.args.mask c.args.from c.ranges.mask.fits c.requires _ low.0 low.1 low.2

pub returns-clause-ends : goal.returns-clause-ends
returns-clause-ends c = λ _.
    let low = bit_at-trailing_zeros w64 (clear_from c.args.mask c.args.from c.ranges.mask.fits c.requires) (omega (arith, c.if-clear-eq0.false)) (omega arith) in
    clear_there c.args.mask c.args.from c.ranges.mask.fits c.requires _ low.0 low.1 low.2
