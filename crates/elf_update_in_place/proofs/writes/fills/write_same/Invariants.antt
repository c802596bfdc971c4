use Rattle.std.proofs.Common.{◌-◌, ◌≤◌, Ok, replicate}
use Rattle.elf_update_in_place.specs.Writes.Overwrites.{Overwrites}
use Rattle.elf_update_in_place.proofs.writes.fills.write_same.Given as goal

abbrev pub invariant-loop-done : goal.invariant-loop-done
invariant-loop-done g l = record {
  over : Overwrites g.D.Source g.D.Device (Ok (tt {0})) l.initial.elf l.elf l.at (replicate l.done l.byte);
  within : l.done ≤ l.count;
}

abbrev pub decreases-loop-done : goal.decreases-loop-done
decreases-loop-done g l = l.count - l.done
