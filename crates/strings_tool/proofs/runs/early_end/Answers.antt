use Rattle.std.proofs.Common.{ap, arith, w64}
use Rattle.std.specs.Int.{bit_not}
use Rattle.std.proofs.lemmas.Nat.Bits.{bit_at-trailing_zeros}
use Rattle.strings_tool.proofs.LaneLemmas.{ends_here, all_early}
use Rattle.strings_tool.proofs.runs.early_end.Goals as goal

pub returns-then-clear-eq0-clause-all : goal.returns-then-clear-eq0-clause-all
returns-then-clear-eq0-clause-all c =
    let mask = c.printable_mask-clear in
    all_early 64 c.args.bytes.now (omega arith) c.requires (bit_not w64 mask.result) (ap (bit_not w64) mask.ensures) (omega (arith, c.if-clear-eq0.true))

pub returns-clause-end : goal.returns-clause-end
returns-clause-end c =
    let mask = c.printable_mask-clear in
    let clear = bit_not w64 mask.result in
    let low = bit_at-trailing_zeros w64 clear (omega (arith, c.if-clear-eq0.false)) (omega arith) in
    (low.0, ends_here 64 c.args.bytes.now (omega arith) c.requires clear (ap (bit_not w64) mask.ensures) _ low.0 low.1 low.2)
