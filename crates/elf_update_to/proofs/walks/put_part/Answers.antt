use Rattle.std.proofs.Common.{arith}
use Rattle.elf_update_to.proofs.PieceLaws.{part_starts, next_within, part_goes_on, part_stops, part_ends, same_piece, same_end, same_small, same_there, same_ready}
use Rattle.elf_update_to.proofs.walks.put_part.Goals as goal

pub loop-p-init : goal.loop-p-init
loop-p-init g c =
    let p = g.P.ImageParts in
    let o = c.args.parts.now in
    part_starts p g.K.Sink c.args.fill (p.due (p.kept o) c.args.part.part)
    (p.pieces (p.kept o) c.args.part.part) o c.args.sink.now c.args.page.now

pub put_piece-requires-clause-ready : goal.put_piece-requires-clause-ready
put_piece-requires-clause-ready g c =
    let l = c.loop-p in
    same_ready g.P.ImageParts c.args.part.part l.p l.end c.args.fill c.args.parts.now l.parts
    l.invariant.emits.parts.kept c.requires.ready

pub put_piece-requires-clause-there : goal.put_piece-requires-clause-there
put_piece-requires-clause-there g c =
    let l = c.loop-p in
    same_there g.P.ImageParts c.args.part.part l.p l.end c.args.fill c.args.parts.now l.parts
    l.invariant.emits.parts.kept
    (omega (arith, c.loop-p-test.true, c.piece_count-count.ensures))

pub put_piece-requires-clause-small : goal.put_piece-requires-clause-small
put_piece-requires-clause-small g c =
    let p = g.P.ImageParts in
    let o = c.args.parts.now in
    let l = c.loop-p in
    let within = next_within p g.K.Sink c.args.fill (p.due (p.kept o) c.args.part.part)
    (p.pieces (p.kept o) c.args.part.part)
    o l.parts c.args.sink.now l.sink c.args.page.now l.page l.p l.end
    (omega (arith, c.loop-p-test.true, c.piece_count-count.ensures)) l.invariant in
    same_small p c.args.part.part l.p l.end c.args.fill o l.parts l.invariant.emits.parts.kept _
    (omega (arith, within, c.requires.long, c.requires.small))

pub returns-in-Err : goal.returns-in-Err
returns-in-Err g c =
    let p = g.P.ImageParts in
    let o = c.args.parts.now in
    let l = c.loop-p in
    part_stops p g.K.Sink c.args.fill (p.due (p.kept o) c.args.part.part) (p.pieces (p.kept o) c.args.part.part)
    c.in-Err.e o l.parts c.put_piece.new.parts c.args.sink.now l.sink c.put_piece.new.sink
    c.args.page.now l.page c.put_piece.new.page c.put_piece.new.page
    l.p l.end (omega (arith, c.loop-p-test.true, c.piece_count-count.ensures)) l.invariant
    (same_piece p c.args.part.part l.p l.end c.args.fill o l.parts l.invariant.emits.parts.kept
    g.K.Sink _ c.put_piece.new.parts l.sink c.put_piece.new.sink
    l.page c.put_piece.new.page c.in-Err.ensures.emits)

pub loop-p-preserved : goal.loop-p-preserved
loop-p-preserved g c =
    let p = g.P.ImageParts in
    let o = c.args.parts.now in
    let l = c.loop-p in
    part_goes_on p g.K.Sink c.args.fill (p.due (p.kept o) c.args.part.part) (p.pieces (p.kept o) c.args.part.part)
    c.in-Ok.after o l.parts c.put_piece.new.parts c.args.sink.now l.sink c.put_piece.new.sink
    c.args.page.now l.page c.put_piece.new.page
    l.p l.end c.in-Ok.after (omega (arith, c.loop-p-test.true, c.piece_count-count.ensures))
    (same_end p c.args.part.part l.p l.end c.args.fill o l.parts l.invariant.emits.parts.kept
    c.in-Ok.after c.in-Ok.ensures.end) l.invariant
    (same_piece p c.args.part.part l.p l.end c.args.fill o l.parts l.invariant.emits.parts.kept
    g.K.Sink _ c.put_piece.new.parts l.sink c.put_piece.new.sink
    l.page c.put_piece.new.page c.in-Ok.ensures.emits)

pub returns : goal.returns
returns g c =
    let p = g.P.ImageParts in
    let o = c.args.parts.now in
    let l = c.loop-p in
    part_ends p g.K.Sink c.args.fill (p.due (p.kept o) c.args.part.part) (p.pieces (p.kept o) c.args.part.part)
    o l.parts c.args.sink.now l.sink c.args.page.now l.page l.p l.end
    (omega (arith, c.loop-p-test.false, c.piece_count-count.ensures)) l.invariant
