use Rattle.elf_update_to.proofs.PieceLaws.{IsPartPut}
use Rattle.elf_update_to.proofs.walks.put_part.Given as goal

abbrev pub invariant-loop-p : goal.invariant-loop-p
invariant-loop-p g l =
    let p = g.P.ImageParts in
    IsPartPut p g.K.Sink l.fill (p.due (p.kept l.initial.parts) l.part.part)
    (p.pieces (p.kept l.initial.parts) l.part.part)
    l.initial.parts l.parts l.initial.sink l.sink l.initial.page l.page l.p l.end
