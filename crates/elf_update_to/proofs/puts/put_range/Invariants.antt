use Rattle.std.proofs.Common.{◌-◌, ◌≤◌, length}
use Rattle.elf_update_to.specs.Origins.{origin_due}
use Rattle.elf_update_to.specs.Emits.{origin_text}
use Rattle.elf_update_to.proofs.RangeLaws.{IsPut}
use Rattle.elf_update_to.proofs.puts.put_range.Given as goal

abbrev pub invariant-loop-at : goal.invariant-loop-at
invariant-loop-at g l =
    let p = g.P.ImageParts in record {
      done : IsPut p g.K.Sink (origin_text p l.initial.parts l.of)
          (origin_due (p.due (p.kept l.initial.parts)) (length (p.base (p.kept l.initial.parts)))
          l.of)
          l.from l.to l.initial.parts l.parts l.initial.sink l.sink l.initial.page l.page l.at;
      low : l.from ≤ l.at;
      high : l.at ≤ l.to;
    }

abbrev pub decreases-loop-at : goal.decreases-loop-at
decreases-loop-at g l = l.to - l.at
