use Rattle.std.proofs.Common.{ℕ, List, length, sym, ap, subst, ◌∙◌, arith}
use Rattle.std.specs.Prelude.{All}
use Rattle.elf_update_to.specs.elf_object.Blocks.{Block}
use Rattle.elf_layout.specs.declared.parts.PartAt.{PartAt}
use Rattle.elf_update_to.specs.Pieces.{blocks_at, HasLength}
use Rattle.elf_update_to.specs.Descriptors.{stored_pieces}
use Rattle.elf_update_to.proofs.UpdateLaws.{planned_end}
use Rattle.elf_update_to.specs.law_object.Writing.Lines.{AreInLine}
use Rattle.elf_update_in_place.specs.Writes.Walks.{put_blocks, NeedNoRead, MayPutAll, PutsAll}
use Rattle.elf_update_in_place.proofs.writes.BegunLaws.{begun_stored, begun_long, begun_line, line_is, begun_count, begun_may, begun_hand}
use Rattle.elf_update_in_place.proofs.writes.changes.write_over.Goals as goal

pub write_parts-requires-clause-stored : goal.write_parts-requires-clause-stored
write_parts-requires-clause-stored g c =
    let b = c.requires.begun in
    let end = planned_end b.was c.args.planned.now b.planned in
    begun_stored g.D.Source c.args.planned.now c.args.changed.now c.args.elf.now c.requires.begun
    c.dirty-object.ensures.sound.object
    (omega (arith, end, c.requires.end, c.ranges.end))

pub write_parts-requires-clause-held : goal.write_parts-requires-clause-held
write_parts-requires-clause-held g c =
    let b = c.requires.begun in
    let end = planned_end b.was c.args.planned.now b.planned in
    subst (λ (l : List PartAt). NeedNoRead c.args.elf.now l c.args.changed.now) (sym c.as_slice.ensures)
    (begun_hand g.D.Source c.args.planned.now c.args.changed.now c.args.elf.now c.requires.begun
    c.dirty-object.ensures.sound.object
    (omega (arith, end, c.requires.end, c.ranges.end)))

pub write_parts-requires-clause-count : goal.write_parts-requires-clause-count
write_parts-requires-clause-count g c =
    let b = c.requires.begun in
    let end = planned_end b.was c.args.planned.now b.planned in
    begun_count g.D.Source c.args.planned.now c.args.changed.now c.args.elf.now c.requires.begun
    c.dirty-object.ensures.sound.object
    (omega (arith, end, c.requires.end, c.ranges.end)) c.ground_of-ground.result.kept c.ground_of-ground.result.fill
    c.ground_of-ground.ensures.kept c.ground_of-ground.ensures.fill
    ∙ ap length (sym c.as_slice.ensures)

pub write_parts-requires-clause-long : goal.write_parts-requires-clause-long
write_parts-requires-clause-long g c =
    let b = c.requires.begun in
    let end = planned_end b.was c.args.planned.now b.planned in
    subst (λ (l : List PartAt). All (HasLength (stored_pieces c.args.elf.now.o)) l) (sym c.as_slice.ensures)
    (begun_long g.D.Source c.args.planned.now c.args.changed.now c.args.elf.now c.requires.begun
    c.dirty-object.ensures.sound.object
    (omega (arith, end, c.requires.end, c.ranges.end)))

pub write_parts-requires-clause-line : goal.write_parts-requires-clause-line
write_parts-requires-clause-line g c =
    let b = c.requires.begun in
    let end = planned_end b.was c.args.planned.now b.planned in
    subst (λ (n : ℕ). AreInLine n 0 (blocks_at c.ground_of-ground.result.fill
    (stored_pieces c.args.elf.now.o) c.as_slice.result.now)) (sym c.requires.end)
    (subst (λ (l : List PartAt). AreInLine c.args.planned.now.places.end 0
    (blocks_at c.ground_of-ground.result.fill (stored_pieces c.args.elf.now.o) l)) (sym c.as_slice.ensures)
    (begun_line g.D.Source c.args.planned.now c.args.changed.now c.args.elf.now c.requires.begun
    c.dirty-object.ensures.sound.object
    (omega (arith, end, c.requires.end, c.ranges.end)) c.ground_of-ground.result.kept c.ground_of-ground.result.fill
    c.ground_of-ground.ensures.kept c.ground_of-ground.ensures.fill))

pub write_parts-requires-clause-may : goal.write_parts-requires-clause-may
write_parts-requires-clause-may g c =
    let b = c.requires.begun in
    let end = planned_end b.was c.args.planned.now b.planned in
    subst (λ (n : ℕ). MayPutAll g.D.Source c.args.elf.now
    (put_blocks c.ground_of-ground.result.kept c.ground_of-ground.result.fill n
    (stored_pieces c.args.elf.now.o) c.as_slice.result.now c.args.changed.now)) (sym c.requires.end)
    (subst (λ (l : List PartAt). MayPutAll g.D.Source c.args.elf.now
    (put_blocks c.ground_of-ground.result.kept c.ground_of-ground.result.fill
    c.args.planned.now.places.end (stored_pieces c.args.elf.now.o) l c.args.changed.now)) (sym c.as_slice.ensures)
    (subst (λ (l : List Block). MayPutAll g.D.Source c.args.elf.now l)
    (sym (line_is g.D.Source c.args.planned.now c.args.changed.now c.args.elf.now c.requires.begun
    c.dirty-object.ensures.sound.object
    (omega (arith, end, c.requires.end, c.ranges.end)) c.ground_of-ground.result.kept c.ground_of-ground.result.fill
    c.ground_of-ground.ensures.kept c.ground_of-ground.ensures.fill))
    (begun_may g.D.Source c.args.planned.now c.args.changed.now c.args.elf.now c.requires.begun
    c.dirty-object.ensures.sound.object
    (omega (arith, end, c.requires.end, c.ranges.end)) (omega (arith, end, c.requires.end, c.requires.fits)))))

pub returns : goal.returns
returns g c = λ b.
    let end = planned_end b.was c.args.planned.now b.planned in
    subst (λ (l : List Block). PutsAll {T = Unit {0}} g.D.Source g.D.Device c.args.old_end c.write_parts.result
    c.args.elf.now c.write_parts.new.elf l)
    (line_is g.D.Source c.args.planned.now c.args.changed.now c.args.elf.now b c.dirty-object.ensures.sound.object
    (omega (arith, end, c.requires.end, c.ranges.end)) c.ground_of-ground.result.kept c.ground_of-ground.result.fill
    c.ground_of-ground.ensures.kept c.ground_of-ground.ensures.fill)
    (subst (λ (l : List PartAt). PutsAll {T = Unit {0}} g.D.Source g.D.Device c.args.old_end c.write_parts.result
    c.args.elf.now c.write_parts.new.elf
    (put_blocks c.ground_of-ground.result.kept c.ground_of-ground.result.fill c.args.planned.now.places.end
    (stored_pieces c.args.elf.now.o) l c.args.changed.now)) c.as_slice.ensures
    (subst (λ (n : ℕ). PutsAll {T = Unit {0}} g.D.Source g.D.Device c.args.old_end c.write_parts.result
    c.args.elf.now c.write_parts.new.elf
    (put_blocks c.ground_of-ground.result.kept c.ground_of-ground.result.fill n
    (stored_pieces c.args.elf.now.o) c.as_slice.result.now c.args.changed.now)) c.requires.end c.write_parts.ensures))
