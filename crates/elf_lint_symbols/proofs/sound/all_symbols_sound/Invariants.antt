use Rattle.std.proofs.Common.{◌<◌, ℕ, IsTrue}
use Rattle.tool_objects.specs.Steps.{LeavesElf}
use Rattle.elf_lint_symbols.specs.Symbols.{AreSoundSymbols}
use Rattle.elf_lint_symbols.proofs.sound.all_symbols_sound.Given as goal

abbrev pub invariant-loop-s : goal.invariant-loop-s
invariant-loop-s g l = record {
  sound : IsTrue l.initial.elf.told → (k : ℕ) → k < l.s → AreSoundSymbols l.initial.elf.o k;
  elf : LeavesElf g.S.Source l.initial.elf l.elf;
}
