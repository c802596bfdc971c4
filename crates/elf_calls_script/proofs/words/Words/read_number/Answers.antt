use Rattle.std.proofs.Common.{◌^◌, lit≤}
use Rattle.std.proofs.lemmas.Result.{err_from_is_err_and}
use Rattle.elf_calls_script.proofs.Narrowed.{narrowed, narrowed_refused}
use Rattle.elf_calls_script.proofs.words.Words.read_number.Goals as goal

pub returns-in_err-n-clause-byte : goal.returns-in_err-n-clause-byte
returns-in_err-n-clause-byte c =
    let p = err_from_is_err_and c.from_residual.result c.from_residual.ensures.1 in
    rw (p.1, p.2) (narrowed_refused (2 ^ 8) c.args.self.now c.in_err-n.field-0.0 c.in_err-n.ensures.value)

pub returns-in_err-n-clause-half : goal.returns-in_err-n-clause-half
returns-in_err-n-clause-half c =
    let p = err_from_is_err_and c.from_residual.result c.from_residual.ensures.1 in
    rw (p.1, p.2) (narrowed_refused (2 ^ 16) c.args.self.now c.in_err-n.field-0.0 c.in_err-n.ensures.value)

pub returns-in_err-n-clause-word : goal.returns-in_err-n-clause-word
returns-in_err-n-clause-word c =
    let p = err_from_is_err_and c.from_residual.result c.from_residual.ensures.1 in
    rw (p.1, p.2) (narrowed_refused (2 ^ 32) c.args.self.now c.in_err-n.field-0.0 c.in_err-n.ensures.value)

pub returns-clause-byte : goal.returns-clause-byte
returns-clause-byte c = rw c.of.ensures.byte (narrowed (2 ^ 8) c.in_ok-n.n c.args.self.now c.read_digits.new.self (lit≤ tt) c.in_ok-n.ensures.value)

pub returns-clause-half : goal.returns-clause-half
returns-clause-half c = rw c.of.ensures.half (narrowed (2 ^ 16) c.in_ok-n.n c.args.self.now c.read_digits.new.self (lit≤ tt) c.in_ok-n.ensures.value)

pub returns-clause-word : goal.returns-clause-word
returns-clause-word c = rw c.of.ensures.word (narrowed (2 ^ 32) c.in_ok-n.n c.args.self.now c.read_digits.new.self (lit≤ tt) c.in_ok-n.ensures.value)
