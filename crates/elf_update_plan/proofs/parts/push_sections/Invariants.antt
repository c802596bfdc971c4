use Rattle.std.proofs.Common.{◌≡◌, ◌≤◌, ◌++◌, ◌+◌, ◌-◌, map}
use Rattle.std.specs.List.{range_with_len}
use Rattle.elf_update_plan.specs.Sections.{capped_section}
use Rattle.elf_update_plan.proofs.parts.push_sections.Given as goal

abbrev pub invariant-loop-s : goal.invariant-loop-s
invariant-loop-s g l = record {
  parts : l.parts ≡ l.initial.parts ++ map (capped_section l.elf.o) (range_with_len 1 (l.s - 1));
  within : l.s ≤ l.s-end + 1;
}
