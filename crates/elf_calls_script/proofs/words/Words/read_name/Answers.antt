use Rattle.std.proofs.Common.{◌≤◌, length, arith}
use Rattle.std.proofs.lemmas.Bool.Decides.{nat_tests}
use Rattle.elf_calls_script.proofs.Pieces.{named}
use Rattle.elf_calls_script.proofs.words.Words.read_name.Goals as goal

pub returns-in_ok-from_slice-in-Some : goal.returns-in_ok-from_slice-in-Some
returns-in_ok-from_slice-in-Some c =
    let some : 1 ≤ length c.in-Some.rest.now = grind (arith, nat_tests) in
    rw (← c.self.view_is, c.in-Some.is, c.in_ok-from_slice-in-Some.ensures.ok) (named c.in-Some.rest.now some)
