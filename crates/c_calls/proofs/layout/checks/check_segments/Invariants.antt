use Rattle.std.proofs.Common.{not}
use Rattle.elf_xlate.specs.Headers.{phdr_fits}
use Rattle.c_calls.specs.Editing.From.{phdr_from_record}
use Rattle.c_calls.proofs.layout.PassLaws.{NoneBelow}
use Rattle.c_calls.proofs.layout.checks.check_segments.Given as goal

abbrev pub invariant-loop-i : goal.invariant-loop-i
invariant-loop-i l =
    NoneBelow (λ p. not (phdr_fits l.class (phdr_from_record p))) l.phdrs l.i
