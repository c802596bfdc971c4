use Rattle.std.proofs.Common.{◌≡◌}
use Rattle.rebuild_join.specs.Joined.Joined.{allocated_below}
use Rattle.rebuild_join.proofs.joined.loaded.push_all.Given as goal

abbrev pub invariant-loop-s : goal.invariant-loop-s
invariant-loop-s g l = l.numbers ≡ allocated_below l.elf.o l.s
