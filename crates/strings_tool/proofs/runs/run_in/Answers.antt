use Rattle.std.proofs.Common.{arith, w64}
use Rattle.std.proofs.lemmas.Nat.Bits.{bit_at-trailing_zeros}
use Rattle.strings_tool.proofs.LaneLemmas.{none_shown, first_shown}
use Rattle.strings_tool.proofs.runs.run_in.Goals as goal

pub returns-then-starts-eq0-clause-none : goal.returns-then-starts-eq0-clause-none
returns-then-starts-eq0-clause-none c = λ count bytes shown.
    none_shown c.args.mask c.args.least c.run_starts-starts.result count bytes c.requires.0 c.run_starts-starts.ensures shown
    (omega (arith, c.if-starts-eq0.true))

pub returns-clause-some : goal.returns-clause-some
returns-clause-some c = λ count bytes shown.
    let starts = c.run_starts-starts.result in
    let low = bit_at-trailing_zeros w64 starts (omega (arith, c.if-starts-eq0.false)) (omega (arith, c.run_starts-starts.type_inv)) in
    first_shown c.args.mask c.args.least starts count bytes c.requires.0 c.run_starts-starts.ensures shown
    _ c.set_bits.result low.1 low.2 c.set_bits.ensures.set c.set_bits.ensures.ends
