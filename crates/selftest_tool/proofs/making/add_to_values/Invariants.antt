use Rattle.std.proofs.Common.{◌≡◌, ◌++◌, map, take, drop}
use Rattle.elf_object.specs.Runs.{more_sym}
use Rattle.selftest_tool.proofs.making.add_to_values.Given as goal

abbrev pub invariant-loop-symbol : goal.invariant-loop-symbol
invariant-loop-symbol l =
    l.symbol-items
    ≡ map (more_sym l.n) (take l.symbol-index l.initial.symbol-items)
    ++ drop l.symbol-index l.initial.symbol-items
