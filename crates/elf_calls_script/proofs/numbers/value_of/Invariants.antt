use Rattle.elf_calls_script.proofs.Values.{Valued}
use Rattle.elf_calls_script.proofs.numbers.value_of.Given as goal

abbrev pub invariant-loop-byte : goal.invariant-loop-byte
invariant-loop-byte l = Valued l.radix l.digits l.byte-index l.value
