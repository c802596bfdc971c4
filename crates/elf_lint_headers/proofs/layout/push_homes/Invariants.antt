use Rattle.std.proofs.Common.{◌≡◌, ◌≤◌, ◌++◌, ◌+◌, ◌-◌, map}
use Rattle.std.specs.List.{range_with_len}
use Rattle.elf_lint_headers.specs.Layout.{home_part}
use Rattle.elf_lint_headers.proofs.layout.push_homes.Given as goal

abbrev pub invariant-loop-s : goal.invariant-loop-s
invariant-loop-s g l = record {
  parts : l.parts ≡ l.initial.parts ++ map (home_part l.elf.o) (range_with_len 1 (l.s - 1));
  within : l.s ≤ l.s-end + 1;
}
