use Rattle.std.proofs.Common.{◌+◌, length, sym, ◌∙◌, arith}
use Rattle.std.proofs.lemmas.Bool.{eqb-true}
use Rattle.line_table.specs.Program.{ops}
use Rattle.line_table.specs.Views.{seen}
use Rattle.line_table.proofs.Running.{some_left, running_start, running_more, running_end, running_stopped}
use Rattle.line_table.proofs.program.execute.Goals as goal

pub loop-reader-init : goal.loop-reader-init
loop-reader-init c =
    rw (c.start.ensures, c.new.ensures, c.new-reader.ensures) (running_start (seen c.args.header.now) c.args.at c.args.files c.args.program.now, omega arith)

pub returns-in-Err : goal.returns-in-Err
returns-in-Err c =
    let left = some_left c.loop-reader.reader (sym c.is_empty.ensures ∙ c.loop-reader-test.true) in
    rw (c.at.ensures, c.len.ensures) (running_stopped (seen c.args.header.now) (c.args.at + length c.args.program.now) c.in-Err.stop c.args.at c.args.files c.args.program.now c.loop-reader.reader c.loop-reader.table c.loop-reader.invariant.0 left c.in-Err.ensures.value)

pub loop-reader-preserved : goal.loop-reader-preserved
loop-reader-preserved c =
    let left = some_left c.loop-reader.reader (sym c.is_empty.ensures ∙ c.loop-reader-test.true) in
    (running_more (seen c.args.header.now) (c.args.at + length c.args.program.now) c.args.files (ops (seen c.args.header.now) c.args.at c.args.program.now) c.loop-reader.reader c.execute_next.new.reader c.loop-reader.table c.execute_next.new.table c.loop-reader.invariant.0 left c.in_default.ensures.value c.in_default.ensures.shorter, omega (arith, c.in_default.ensures.shorter))

pub returns : goal.returns
returns c =
    let none = eqb-true (length c.loop-reader.reader) 0 (sym c.is_empty.ensures ∙ c.loop-reader-test.false) in
    running_end (seen c.args.header.now) (c.args.at + length c.args.program.now) c.args.at c.args.files c.args.program.now c.loop-reader.reader c.loop-reader.table c.loop-reader.invariant.0 none
