use Rattle.std.proofs.Common.{refl}
use Rattle.elf_update_to.proofs.UpdateLaws.{ground, planned_answer, written_text, written_due, updates_put}
use Rattle.elf_update_to.proofs.updates.write_planned.Goals as goal

pub put_image-requires-clause-ready : goal.put_image-requires-clause-ready
put_image-requires-clause-ready g c =
    (ground c.args.elf.now c.store_places.new.self c.args.planned.now c.as_slice.result.now
    c.ground_of-ground.result.kept c.ground_of-ground.result.fill c.requires.planned
    c.store_places.ensures c.as_slice.ensures c.ground_of-ground.ensures.kept
    c.ground_of-ground.ensures.fill).ready

pub put_image-requires-clause-kept : goal.put_image-requires-clause-kept
put_image-requires-clause-kept g c =
    (ground c.args.elf.now c.store_places.new.self c.args.planned.now c.as_slice.result.now
    c.ground_of-ground.result.kept c.ground_of-ground.result.fill c.requires.planned
    c.store_places.ensures c.as_slice.ensures c.ground_of-ground.ensures.kept
    c.ground_of-ground.ensures.fill).most

pub put_image-requires-clause-long : goal.put_image-requires-clause-long
put_image-requires-clause-long g c =
    (ground c.args.elf.now c.store_places.new.self c.args.planned.now c.as_slice.result.now
    c.ground_of-ground.result.kept c.ground_of-ground.result.fill c.requires.planned
    c.store_places.ensures c.as_slice.ensures c.ground_of-ground.ensures.kept
    c.ground_of-ground.ensures.fill).long

pub put_image-requires-clause-line : goal.put_image-requires-clause-line
put_image-requires-clause-line g c =
    (ground c.args.elf.now c.store_places.new.self c.args.planned.now c.as_slice.result.now
    c.ground_of-ground.result.kept c.ground_of-ground.result.fill c.requires.planned
    c.store_places.ensures c.as_slice.ensures c.ground_of-ground.ensures.kept
    c.ground_of-ground.ensures.fill).line

pub returns : goal.returns
returns g c =
    let m = c.store_places.new.self in
    let l = c.as_slice.result.now in
    let end = c.args.planned.now.places.end in
    let kept = c.ground_of-ground.result.kept in
    let fill = c.ground_of-ground.result.fill in
    let is = ground c.args.elf.now m c.args.planned.now l kept fill c.requires.planned
    c.store_places.ensures c.as_slice.ensures c.ground_of-ground.ensures.kept
    c.ground_of-ground.ensures.fill in
    updates_put _ g.S.Source g.K.Sink c.put_image.result end c.args.elf.now m
    c.put_image.new.parts c.args.sink.now c.put_image.new.sink c.args.page.now
    c.put_image.new.page (written_text m.o l end kept fill)
    (written_due m.o m.loaded l end kept fill) c.put_image.ensures.emits
    (record { kept = λ a b h. h; told = λ a. refl; faults = λ a. refl; taken = λ a. refl })
    (planned_answer c.args.elf.now.o c.args.planned.now c.requires.planned)
    c.store_places.ensures c.requires.empty is.text is.asks c.put_image.ensures.empty
