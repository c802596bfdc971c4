use Rattle.std.proofs.Common.{arith}
use Rattle.elf_update_to.specs.elf_object.Answers.{part_refusal}
use Rattle.elf_update_in_place.proofs.moves.SectionLaws.{piece_there, some_piece, more_pieces, no_line_pieces}
use Rattle.elf_update_in_place.proofs.moves.marks.some_piece_is_marked.Goals as goal

pub is_marked-requires : goal.is_marked-requires
unfolding part_refusal
is_marked-requires g c =
    piece_there c.args.elf.now.o c.args.s c.loop-p.p c.count_pieces-p-end.result c.requires
    c.loop-p-test.true c.count_pieces-p-end.ensures

pub returns-then-is_marked : goal.returns-then-is_marked
returns-then-is_marked g c =
    some_piece c.args.elf.now.o c.args.s c.loop-p.p c.count_pieces-p-end.result c.is_marked.result
    c.loop-p-test.true c.count_pieces-p-end.ensures c.is_marked.ensures c.if-is_marked.true

pub loop-p-preserved : goal.loop-p-preserved
loop-p-preserved g c =
    more_pieces c.args.elf.now.o c.args.s c.loop-p.p c.count_pieces-p-end.result c.is_marked.result
    c.loop-p-test.true c.count_pieces-p-end.ensures c.loop-p.invariant c.is_marked.ensures
    c.if-is_marked.false

pub returns : goal.returns
returns g c =
    no_line_pieces c.args.elf.now.o c.args.s c.loop-p.p c.count_pieces-p-end.result
    (omega (arith, c.loop-p-test.false)) c.count_pieces-p-end.ensures c.loop-p.invariant
