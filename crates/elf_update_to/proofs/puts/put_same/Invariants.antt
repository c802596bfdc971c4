use Rattle.std.proofs.Common.{◌-◌, ◌≤◌, Ok, replicate}
use Rattle.elf_update_to.specs.Texts.{Flows}
use Rattle.elf_update_to.proofs.puts.put_same.Given as goal

abbrev pub invariant-loop-left : goal.invariant-loop-left
invariant-loop-left g l = record {
  done : Flows g.K.Sink (Ok (tt {0})) l.initial.sink l.sink l.initial.page l.page (replicate (l.count - l.left) l.byte);
  within : l.left ≤ l.count;
}

abbrev pub decreases-loop-left : goal.decreases-loop-left
decreases-loop-left g l = l.left
