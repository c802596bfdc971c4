use Rattle.std.proofs.Common.{◌^◌, lit≤}
use Rattle.std.proofs.lemmas.Result.{err_from_is_err_and}
use Rattle.elf_calls_script.proofs.Narrowed.{narrowed, narrowed_refused}
use Rattle.elf_calls_script.proofs.words.Words.read_u32.Goals as goal

pub returns-in_err-n : goal.returns-in_err-n
returns-in_err-n c =
    let p = err_from_is_err_and c.from_residual.result c.from_residual.ensures.1 in
    rw (p.1, p.2) (narrowed_refused (2 ^ 32) c.args.self.now c.in_err-n.field-0.0 c.in_err-n.ensures.value)

pub returns : goal.returns
returns c = rw c.to_u32.ensures (narrowed (2 ^ 32) c.in_ok-n.n c.args.self.now c.read_digits.new.self (lit≤ tt) c.in_ok-n.ensures.value)
