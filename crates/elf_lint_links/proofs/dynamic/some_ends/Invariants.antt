use Rattle.std.proofs.Common.{◌≡◌, ◌<◌, ℕ, false, IsTrue}
use Rattle.std.specs.Prelude.{slice_get}
use Rattle.elf_lint_findings.specs.tool_objects.Steps.{LeavesElf}
use Rattle.elf_lint_findings.specs.Looking.{dyns}
use Rattle.elf_lint_links.specs.Dynamic.{is_dynamic_end}
use Rattle.elf_lint_links.proofs.dynamic.some_ends.Given as goal

abbrev pub invariant-loop-i : goal.invariant-loop-i
invariant-loop-i g l = record {
  none : IsTrue l.initial.elf.told → (k : ℕ) → k < l.i → false ≡ is_dynamic_end (slice_get (dyns l.initial.elf.o l.s.0) k);
  elf : LeavesElf g.S.Source l.initial.elf l.elf;
}
