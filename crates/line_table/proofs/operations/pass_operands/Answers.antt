use Rattle.std.proofs.Common.{arith}
use Rattle.std.proofs.lemmas.Result.{err_from_is_err_and}
use Rattle.line_table.specs.Program.{passed}
use Rattle.line_table.proofs.Operands.{passed_more, passed_refused}
use Rattle.line_table.proofs.operations.pass_operands.Goals as goal

pub returns-in_err-_operand-clause-value : goal.returns-in_err-_operand-clause-value
returns-in_err-_operand-clause-value c =
    let p = err_from_is_err_and c.from_residual.result c.from_residual.ensures.1 in
    rw (p.1, p.2) (passed_refused c.in_err-_operand.field-0.0 c.args.count c.loop.counter c.loop.reader (passed c.args.count c.args.reader.now) c.loop-test.true c.in_err-_operand.ensures.value c.loop.invariant.0)

pub loop-preserved : goal.loop-preserved
loop-preserved c =
    (passed_more c.args.count c.loop.counter c.loop.reader c.read_leb128.new.self c.in_ok-_operand._operand (passed c.args.count c.args.reader.now) c.loop-test.true c.in_ok-_operand.ensures.value c.loop.invariant.0, omega (arith, c.in_ok-_operand.ensures.no_longer))
