use Rattle.std.proofs.Common.{sym, ◌∙◌, arith}
use Rattle.std.proofs.lemmas.Result.{err_from_is_err_and}
use Rattle.line_table.specs.Reading.{leb128_at}
use Rattle.line_table.proofs.Digits.{raised_more, raised_last, raised_refused}
use Rattle.line_table.proofs.reader.Reader.read_leb128.Goals as goal

pub returns-in_err-byte-clause-value : goal.returns-in_err-byte-clause-value
returns-in_err-byte-clause-value c =
    let p = err_from_is_err_and c.from_residual.result c.from_residual.ensures.1 in
    rw (p.1, p.2) (raised_refused c.in_err-byte.field-0.0 c.args.signed c.loop-byte.number c.loop-byte.worth c.loop-byte.self (leb128_at c.args.signed c.args.self.now) c.in_err-byte.ensures.value c.loop-byte.invariant.0)

pub returns-then-byte-lt128-clause-value : goal.returns-then-byte-lt128-clause-value
returns-then-byte-lt128-clause-value c =
    rw c.digit_of-digit.ensures (sym c.loop-byte.invariant.0 ∙ raised_last c.args.signed c.loop-byte.number c.loop-byte.worth c.in_ok-byte.byte c.loop-byte.self c.read_u8.new.self c.if-byte-lt128.true c.in_ok-byte.ensures.value)

pub loop-byte-preserved : goal.loop-byte-preserved
loop-byte-preserved c =
    (rw c.digit_of-digit.ensures (raised_more c.args.signed c.loop-byte.number c.loop-byte.worth c.in_ok-byte.byte c.loop-byte.self c.read_u8.new.self c.if-byte-lt128.false c.in_ok-byte.ensures.value ∙ c.loop-byte.invariant.0), omega (arith, c.in_ok-byte.ensures.shorter))
