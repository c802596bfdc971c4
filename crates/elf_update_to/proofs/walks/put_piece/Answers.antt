use Rattle.std.proofs.Common.{◌-◌, ℕ, refl, ap, arith}
use Rattle.std.specs.Int.{next_multiple_of}
use Rattle.std.specs.Prelude.{slice_index_or}
use Rattle.elf_update_to.specs.Origins.{absent_piece}
use Rattle.elf_update_to.proofs.PieceLaws.{stands_at, piece_stops, piece_unread, piece_done}
use Rattle.elf_update_to.proofs.walks.put_piece.Goals as goal

pub next_multiple_of-at-requires-clause-fits : goal.next_multiple_of-at-requires-clause-fits
next_multiple_of-at-requires-clause-fits g c =
    let piece = slice_index_or (g.P.ImageParts.pieces (g.P.ImageParts.kept c.args.parts.now)
    c.args.part) c.args.p absent_piece in
    let place = stands_at c.args.end piece.0 c.piece-piece.result.align c.max.result
    (next_multiple_of c.args.end c.max.result)
    c.piece-piece.ensures.align c.max.ensures refl in
    omega (arith, place, c.requires.small)

pub returns-in-Err-clause-emits : goal.returns-in-Err-clause-emits
returns-in-Err-clause-emits g c =
    let piece = slice_index_or (g.P.ImageParts.pieces (g.P.ImageParts.kept c.args.parts.now)
    c.args.part) c.args.p absent_piece in
    let place = stands_at c.args.end piece.0 c.piece-piece.result.align c.max.result c.next_multiple_of-at.result
    c.piece-piece.ensures.align c.max.ensures c.next_multiple_of-at.ensures.value in
    piece_stops g.P.ImageParts g.K.Sink c.args.part c.args.p c.args.end c.args.fill c.in-Err.e
    c.args.parts.now c.args.sink.now c.put_fill.new.sink
    c.args.page.now c.put_fill.new.page _ (ap (λ (n : ℕ). n - c.args.end) place)
    c.in-Err.ensures.err c.in-Err.ensures.flows

pub returns-in-Err-put_range-clause-emits : goal.returns-in-Err-put_range-clause-emits
returns-in-Err-put_range-clause-emits g c =
    let piece = slice_index_or (g.P.ImageParts.pieces (g.P.ImageParts.kept c.args.parts.now)
    c.args.part) c.args.p absent_piece in
    let place = stands_at c.args.end piece.0 c.piece-piece.result.align c.max.result c.next_multiple_of-at.result
    c.piece-piece.ensures.align c.max.ensures c.next_multiple_of-at.ensures.value in
    piece_unread g.P.ImageParts g.K.Sink c.args.part c.args.p c.args.end c.args.fill
    c.in-Err-put_range.e c.args.parts.now c.put_range.new.parts
    c.args.sink.now c.put_fill.new.sink c.put_range.new.sink c.args.page.now c.put_fill.new.page
    c.put_range.new.page _ c.piece-piece.result.len
    (ap (λ (n : ℕ). n - c.args.end) place) c.piece-piece.ensures.len c.in_default.ensures.flows
    c.in-Err-put_range.ensures

pub overflow_add-result : goal.overflow_add-result
overflow_add-result g c =
    let piece = slice_index_or (g.P.ImageParts.pieces (g.P.ImageParts.kept c.args.parts.now)
    c.args.part) c.args.p absent_piece in
    let place = stands_at c.args.end piece.0 c.piece-piece.result.align c.max.result c.next_multiple_of-at.result
    c.piece-piece.ensures.align c.max.ensures c.next_multiple_of-at.ensures.value in
    omega (arith, place, c.piece-piece.ensures.len, c.requires.small)

pub returns-clause-end : goal.returns-clause-end
returns-clause-end g c =
    let piece = slice_index_or (g.P.ImageParts.pieces (g.P.ImageParts.kept c.args.parts.now)
    c.args.part) c.args.p absent_piece in
    let place = stands_at c.args.end piece.0 c.piece-piece.result.align c.max.result c.next_multiple_of-at.result
    c.piece-piece.ensures.align c.max.ensures c.next_multiple_of-at.ensures.value in
    omega (arith, place, c.piece-piece.ensures.len)

pub returns-clause-emits : goal.returns-clause-emits
returns-clause-emits g c =
    let piece = slice_index_or (g.P.ImageParts.pieces (g.P.ImageParts.kept c.args.parts.now)
    c.args.part) c.args.p absent_piece in
    let place = stands_at c.args.end piece.0 c.piece-piece.result.align c.max.result c.next_multiple_of-at.result
    c.piece-piece.ensures.align c.max.ensures c.next_multiple_of-at.ensures.value in
    piece_done g.P.ImageParts g.K.Sink c.args.part c.args.p c.args.end c.args.fill _
    c.args.parts.now c.put_range.new.parts
    c.args.sink.now c.put_fill.new.sink c.put_range.new.sink c.args.page.now c.put_fill.new.page
    c.put_range.new.page _ c.piece-piece.result.len
    (ap (λ (n : ℕ). n - c.args.end) place) c.piece-piece.ensures.len c.in_default.ensures.flows
    c.in_default-put_range.ensures
