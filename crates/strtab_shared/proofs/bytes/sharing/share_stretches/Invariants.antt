use Rattle.strtab_shared.proofs.bytes.ShareLaws.{SharedBelow}
use Rattle.strtab_shared.proofs.bytes.sharing.share_stretches.Given as goal

abbrev pub invariant-loop-s : goal.invariant-loop-s
invariant-loop-s l = SharedBelow l.initial.parts l.parts l.base l.stretches l.s-index
