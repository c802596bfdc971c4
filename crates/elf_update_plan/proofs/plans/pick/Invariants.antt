use Rattle.std.proofs.Common.{◌≡◌, take, map}
use Rattle.elf_update_plan.specs.Plans.{part_of_rank}
use Rattle.elf_update_plan.proofs.plans.pick.Given as goal

abbrev pub invariant-loop-rank : goal.invariant-loop-rank
invariant-loop-rank l = l.picked ≡ map (part_of_rank l.parts) (take l.rank-index l.ranks)
