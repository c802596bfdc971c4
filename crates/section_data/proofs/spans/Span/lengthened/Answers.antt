use Rattle.std.proofs.Common.{arith}
use Rattle.section_data.proofs.Rounding.{lengthened_end}
use Rattle.section_data.proofs.spans.Span.lengthened.Goals as goal

pub returns-clause-end : goal.returns-clause-end
returns-clause-end c = λ end.
    let span = c.args.self.now in
    let whole =
    lengthened_end end span.before span.align span.len c.args.align c.args.len
    c.requires.run c.requires.some c.requires.divides in
    omega (arith, c.in-Some.ensures.1, c.in-Some-checked_add.ensures.1, whole)
