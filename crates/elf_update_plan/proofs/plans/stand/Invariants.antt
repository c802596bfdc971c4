use Rattle.std.proofs.Common.{◌≡◌}
use Rattle.elf_update_plan.proofs.PartLaws.{stood}
use Rattle.elf_update_plan.proofs.plans.stand.Given as goal

abbrev pub invariant-loop-i : goal.invariant-loop-i
invariant-loop-i l = l.parts ≡ stood l.initial.parts l.at l.i
