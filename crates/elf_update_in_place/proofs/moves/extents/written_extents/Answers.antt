use Rattle.std.proofs.Common.{◌∙◌, sym, ap, map, refl, List, arith}
use Rattle.elf_layout.specs.declared.parts.PartAt.{PartAt}
use Rattle.elf_update_to.specs.elf_update_plan.Plans.{no_part}
use Rattle.elf_update_to.proofs.UpdateLaws.{planned_end}
use Rattle.elf_update_in_place.specs.Moves.Written.{part_changed, written_line}
use Rattle.elf_update_in_place.specs.Moves.Extents.{block_extents}
use Rattle.elf_update_in_place.proofs.moves.ExtentLaws.{extents_start, listed_more, listed_within, listed_end}
use Rattle.elf_update_in_place.proofs.moves.SectionLaws.{image_small}
use Rattle.elf_update_in_place.proofs.moves.extents.written_extents.Goals as goal

pub loop-i-init : goal.loop-i-init
loop-i-init g c = extents_start c.args.elf.now.o c.new-extents.result c.new-extents.ensures

pub overflow_add-end : goal.overflow_add-end
overflow_add-end g c =
    let within = listed_within c.args.elf.now.o c.as_slice-parts.result.now c.args.changed.now
    c.requires.planned.ready (c.as_slice-parts.ensures ∙ c.requires.planned.parts)
    (c.requires.changed
    ∙ ap (λ (l : List PartAt). map (λ p. part_changed c.args.elf.now.o p.part) l)
    (sym c.as_slice-parts.ensures)) no_part c.loop-i.i c.loop-i-test.true in
    let small = image_small c.args.elf.now.o c.requires.planned.ready in
    omega (arith, within, small)

pub loop-i-preserved : goal.loop-i-preserved
loop-i-preserved g c =
    listed_more c.args.elf.now.o c.as_slice-parts.result.now c.args.changed.now
    c.requires.planned.ready (c.as_slice-parts.ensures ∙ c.requires.planned.parts)
    (c.requires.changed
    ∙ ap (λ (l : List PartAt). map (λ p. part_changed c.args.elf.now.o p.part) l) (sym c.as_slice-parts.ensures))
    _ _ c.loop-i.i c.loop-i.from c.ground_of-kept.result.kept _ c.max.result c.loop-i.extents
    c.push_row.new.extents (block_extents (written_line c.args.elf.now.o)) c.loop-i-test.true
    c.ground_of-kept.ensures.kept refl c.max.ensures c.in_default.ensures.ok c.loop-i.invariant

pub returns-clause-ok : goal.returns-clause-ok
returns-clause-ok g c =
    listed_end c.args.elf.now.o c.as_slice-parts.result.now c.args.changed.now
    c.requires.planned.ready (c.as_slice-parts.ensures ∙ c.requires.planned.parts)
    (c.requires.changed
    ∙ ap (λ (l : List PartAt). map (λ p. part_changed c.args.elf.now.o p.part) l) (sym c.as_slice-parts.ensures))
    c.loop-i.i c.loop-i.from c.ground_of-kept.result.kept c.args.planned.now.places.end
    c.max-2.result c.loop-i.extents c.push_extent.new.extents
    (block_extents (written_line c.args.elf.now.o)) (omega (arith, c.loop-i-test.false))
    c.ground_of-kept.ensures.kept (planned_end c.args.elf.now.o c.args.planned.now c.requires.planned)
    c.max-2.ensures c.in_default-push_extent.ensures.ok c.loop-i.invariant
