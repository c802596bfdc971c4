use Rattle.strtab_shared.specs.Chains.{past}
use Rattle.strtab_shared.proofs.KeptLaws.{Walking}
use Rattle.strtab_shared.proofs.finding.find_follower.Given as goal

-- the walk has not passed the name
abbrev pub invariant-loop-next : goal.invariant-loop-next
invariant-loop-next l = Walking l.parts l.name l.next

abbrev pub decreases-loop-next : goal.decreases-loop-next
decreases-loop-next l = past l.next
