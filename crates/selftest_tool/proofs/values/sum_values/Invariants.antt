use Rattle.std.proofs.Common.{◌≡◌, ◌≤◌, ◌*◌, ◌^◌, take, IsTrue}
use Rattle.std.specs.List.{sum_by}
use Rattle.elf_object.specs.Answers.{items_at, syms_of}
use Rattle.elfkit_outcomes.specs.tool_objects.Steps.{LeavesElf}
use Rattle.selftest_tool.proofs.values.sum_values.Given as goal

abbrev pub invariant-loop-i : goal.invariant-loop-i
invariant-loop-i g l = record {
  elf : LeavesElf g.S.Source l.initial.elf l.elf;
  sum : IsTrue l.initial.elf.told → l.total
      ≡ sum_by (λ x. x.value)
      (take l.i (syms_of (items_at l.initial.elf.o l.d.section l.d.piece)));
  within : l.total ≤ l.i * 2 ^ 64;
}
