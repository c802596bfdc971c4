use Rattle.std.proofs.Common.{◌∙◌, [], ◌∷◌, ap, refl, length, arith}
use Rattle.elf_types.specs.declared.records.Part.TheVariants as part
use Rattle.elf_update_to.specs.elf_descriptor.State.{State}
use Rattle.elf_object.specs.Answers.{part_refusal}
use Rattle.elf_update_to.proofs.elf_update_plan.RowLaws.{ok_is}
use Rattle.elf_update_to.specs.law_object.Writing.Marks.{marked_all, pieces_of}
use Rattle.elf_update_in_place.proofs.MarkSteps.{state_marked, state_is, shape_all, same_count, parts_more, parts_skip, parts_all}
use Rattle.elf_update_in_place.proofs.marks.mark_moved.Goals.{then-moves-s, else-moves-s}
use Rattle.elf_update_in_place.proofs.marks.mark_moved.Goals as goal

pub mark-requires : goal.mark-requires
unfolding part_refusal
mark-requires g c = refl

pub bounds-moves-s : goal.bounds-moves-s
bounds-moves-s g c =
    let end = ok_is _ _ c.shnum-s-end.ensures in
    let marked = ap (λ (e : State g.row.S.Denot). length e.o.sections) c.mark.ensures in
    let shape = (shape_all c.args.elf.now.o (part.Object ∷ [])).count in
    omega (arith, c.loop-s-test.true, end, marked, shape, c.requires)

pub mark_pieces-requires : goal.mark_pieces-requires
mark_pieces-requires g c =
    let end = ok_is _ _ c.shnum-s-end.ensures in
    let marked = ap (λ (e : State g.row.S.Denot). length e.o.sections) c.mark.ensures in
    let shape = (shape_all c.args.elf.now.o (part.Object ∷ [])).count in
    let now = same_count c.args.elf.now.o c.loop-s.elf.o c.args.moves.now c.loop-s.s
    (ap (λ (e : State g.row.S.Denot). e.o) c.loop-s.invariant) in
    omega (arith, c.loop-s-test.true, end, marked, shape, now)

pub loop-s-preserved : goal.loop-s-preserved
loop-s-preserved g c =
    elim c.if-moves-s.branch [
      | then-moves-s w ↦
          w.elf-is
          ∙ state_marked c.args.elf.now c.loop-s.elf w.mark_pieces.new.elf _ _ _
          c.loop-s.invariant w.mark_pieces.ensures
          (parts_more c.args.elf.now.o c.loop-s.elf.o
          (marked_all c.loop-s.elf.o (pieces_of c.loop-s.elf.o c.loop-s.s)) c.args.moves.now
          c.loop-s.s (ap (λ (e : State g.row.S.Denot). e.o) c.loop-s.invariant)
          w.if-moves-s.true refl)
      | else-moves-s w ↦
          w.elf-is
          ∙ state_is c.args.elf.now c.loop-s.elf _ _ c.loop-s.invariant
          (parts_skip c.args.elf.now.o _ c.args.moves.now c.loop-s.s refl w.if-moves-s.false)
    ]

pub returns : goal.returns
returns g c =
    let end = ok_is _ _ c.shnum-s-end.ensures in
    let marked = ap (λ (e : State g.row.S.Denot). length e.o.sections) c.mark.ensures in
    let shape = (shape_all c.args.elf.now.o (part.Object ∷ [])).count in
    state_is c.args.elf.now c.loop-s.elf _ _ c.loop-s.invariant
    (parts_all c.args.elf.now.o _ c.args.moves.now c.loop-s.s refl
    (omega (arith, c.loop-s-test.false, c.loop-s.auto.s-end, end, marked, shape)))
