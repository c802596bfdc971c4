use Rattle.elf_lint_hashes.specs.Gnu.{gnu_section_of}
use Rattle.elf_lint_hashes.proofs.GnuChains.{IsEndBelow}
use Rattle.elf_lint_hashes.proofs.gnu.end_of.Given as goal

abbrev pub invariant-loop-i : goal.invariant-loop-i
invariant-loop-i l = IsEndBelow (gnu_section_of l.t l.bytes) l.t.count l.i l.end
