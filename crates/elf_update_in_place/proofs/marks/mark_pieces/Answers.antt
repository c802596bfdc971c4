use Rattle.std.proofs.Common.{ap, refl, arith}
use Rattle.elf_types.specs.declared.records.Part.TheVariants as part
use Rattle.elf_update_to.specs.elf_descriptor.State.{State}
use Rattle.elf_object.specs.Answers.{part_refusal}
use Rattle.elf_object.specs.Steps.{with_mark}
use Rattle.elf_update_in_place.proofs.MarkSteps.{state_marked, state_is, piece_there, pieces_more, pieces_all}
use Rattle.elf_update_in_place.proofs.marks.mark_pieces.Goals as goal

pub mark-requires : goal.mark-requires
unfolding part_refusal
mark-requires g c =
    piece_there c.args.elf.now.o c.loop-p.elf.o c.args.s c.loop-p.p
    (ap (λ (e : State g.row.S.Denot). e.o) c.loop-p.invariant) c.requires
    (omega (arith, c.loop-p-test.true, c.count_pieces-p-end.ensures))

pub loop-p-preserved : goal.loop-p-preserved
loop-p-preserved g c =
    state_marked c.args.elf.now c.loop-p.elf c.mark.new.elf _ _ _ c.loop-p.invariant
    c.mark.ensures
    (pieces_more c.args.elf.now.o c.loop-p.elf.o
    (with_mark c.loop-p.elf.o (part.Piece c.args.s c.loop-p.p)) c.args.s c.loop-p.p
    (ap (λ (e : State g.row.S.Denot). e.o) c.loop-p.invariant) refl)

pub returns : goal.returns
returns g c =
    state_is c.args.elf.now c.loop-p.elf _ _ c.loop-p.invariant
    (pieces_all c.args.elf.now.o _ c.args.s c.loop-p.p refl
    (omega (arith, c.loop-p-test.false, c.loop-p.auto.p-end, c.count_pieces-p-end.ensures)))
