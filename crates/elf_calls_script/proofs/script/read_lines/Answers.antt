use Rattle.std.proofs.Common.{◌+◌, List, Some, sym, subst}
use Rattle.std.specs.Option.{option_copied}
use Rattle.std.proofs.lemmas.Result.{err_from_is_err_and}
use Rattle.elf_calls_script.specs.declared.calls.Call.{Call}
use Rattle.elf_calls_script.proofs.LinesRead.{ReadSoFar, read_begin, read_more, read_refused, read_end}
use Rattle.elf_calls_script.proofs.script.read_lines.Goals as goal

pub loop-rest-init : goal.loop-rest-init
loop-rest-init c =
    subst (λ (l : List Call). ReadSoFar c.args.bytes.now l 0 (Some c.args.bytes.now)) (sym c.new-calls.ensures)
    (read_begin c.args.bytes.now)

pub returns-in_err-call : goal.returns-in_err-call
returns-in_err-call c =
    let p = err_from_is_err_and c.from_residual.result c.from_residual.ensures.1 in
    rw (p.1, p.2)
    (read_refused c.args.bytes.now c.loop-rest.calls c.loop-rest.number c.in-Some.text.now c.cut.result.0.now (option_copied c.cut.result.1) c.in_err-call.field-0.0
    (rw c.in-Some.is at c.loop-rest.invariant) c.cut.ensures c.in_err-call.ensures)

pub loop-rest-preserved : goal.loop-rest-preserved
loop-rest-preserved c =
    subst (λ (l : List Call). ReadSoFar c.args.bytes.now l (c.loop-rest.number + 1) (option_copied c.cut.result.1)) (sym c.in_ok-keep.ensures.ok)
    (read_more c.args.bytes.now c.loop-rest.calls c.loop-rest.number c.in-Some.text.now c.cut.result.0.now (option_copied c.cut.result.1) c.in_ok-call.call
    (rw c.in-Some.is at c.loop-rest.invariant) c.cut.ensures c.in_ok-call.ensures)

pub returns : goal.returns
returns c = read_end c.args.bytes.now c.loop-rest.calls c.loop-rest.number (rw c.in_default.is at c.loop-rest.invariant)
