use Rattle.std.proofs.Common.{arith}
use Rattle.gelf_view.proofs.HomeLemmas.{below_count}
use Rattle.gelf_view.proofs.StringLemmas.{piece_of_bytes}
use Rattle.gelf_view.proofs.StackLemmas.{left_behind, left_none, stands_over, stands_next, stands_before}
use Rattle.gelf_view.proofs.string_places.find_start.Goals as goal

pub loop-piece-init : goal.loop-piece-init
loop-piece-init g c = (
  c.first_pieces-first.ensures.within,
  left_behind c.args.elf.now.o c.args.s.0 c.args.offset c.first_pieces-first.result.count
      c.first_pieces-first.result.end c.first_pieces-first.ensures.first
      c.first_pieces-first.ensures.within,
)

pub alignment-requires : goal.alignment-requires
alignment-requires g c = below_count c.args.elf.now.o c.args.s.0 c.loop-piece.piece c.requires.section (omega arith)

pub byte_count-requires-clause-there : goal.byte_count-requires-clause-there
byte_count-requires-clause-there g c = below_count c.args.elf.now.o c.args.s.0 c.loop-piece.piece c.requires.section (omega arith)

pub byte_count-requires-clause-kind : goal.byte_count-requires-clause-kind
byte_count-requires-clause-kind g c = piece_of_bytes c.args.elf.now.o c.args.s.0 c.loop-piece.piece c.requires.bytes (omega arith)

pub returns-in-Covers-clause-ok : goal.returns-in-Covers-clause-ok
returns-in-Covers-clause-ok g c =
    stands_over c.args.elf.now.o c.args.s.0 c.args.offset c.loop-piece.end c.loop-piece.piece c.alignment.result c.byte_count.result (omega arith)
    c.alignment.ensures c.byte_count.ensures c.loop-piece.invariant.1 c.in-Covers.start c.in-Covers.ensures

pub returns-in-Before-clause-err : goal.returns-in-Before-clause-err
returns-in-Before-clause-err g c =
    let so_far = c.loop-piece in
    stands_before c.args.elf.now.o c.args.s.0 c.args.offset so_far.end so_far.piece
    c.alignment.result c.byte_count.result (omega arith) c.alignment.ensures c.byte_count.ensures
    so_far.invariant.1 c.data_size-size.result c.in-Before.ensures c.data_size-size.ensures

pub loop-piece-preserved : goal.loop-piece-preserved
loop-piece-preserved g c = (
  c.in-Ends.ensures.1,
  stands_next c.args.elf.now.o c.args.s.0 c.args.offset c.loop-piece.end c.loop-piece.piece c.alignment.result c.byte_count.result (omega arith)
      c.alignment.ensures c.byte_count.ensures c.loop-piece.invariant.1 c.in-Ends.next c.in-Ends.ensures,
)

pub returns-clause-err : goal.returns-clause-err
returns-clause-err g c =
    let so_far = c.loop-piece in
    left_none c.args.elf.now.o c.args.s.0 c.args.offset so_far.end so_far.piece
    (omega (arith, so_far.invariant.0))
    (omega (arith, c.loop-piece-test.false, c.requires.count)) so_far.invariant.1
