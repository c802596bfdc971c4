use Rattle.elf_update_to.proofs.WalkLaws.{IsImagePut}
use Rattle.elf_update_to.proofs.walks.put_image.Given as goal

abbrev pub invariant-loop-part : goal.invariant-loop-part
invariant-loop-part g l =
    let p = g.P.ImageParts in
    let o = l.initial.parts in
    IsImagePut p g.K.Sink (p.base (p.kept o)) l.ground.kept l.ground.fill l.end
    (p.pieces (p.kept o)) (p.due (p.kept o)) l.plan
    o l.parts l.initial.sink l.sink l.initial.page l.page l.part-index l.from
