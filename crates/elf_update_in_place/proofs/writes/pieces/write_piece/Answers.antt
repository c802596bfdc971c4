use Rattle.std.proofs.Common.{ℕ, List, ◌+◌, ◌-◌, length, get_or, refl, sym, subst, ap, ◌∙◌, arith}
use Rattle.std.specs.Int.{next_multiple_of}
use Rattle.elf_update_to.proofs.law_object.PlaceLaws.{rounded_up-ge}
use Rattle.elf_update_to.specs.Origins.{absent_piece}
use Rattle.elf_update_to.specs.Descriptors.{stored_pieces}
use Rattle.elf_update_to.proofs.PieceLaws.{stands_at}
use Rattle.elf_update_in_place.specs.Writes.Overwrites.{MayOverwrite}
use Rattle.elf_update_in_place.proofs.writes.RebaseLaws.{stored_after, pieces_after, at_hand_after}
use Rattle.elf_update_in_place.proofs.writes.OverPieces.{gap_may, piece_may, gap_stops, piece_stops, piece_ends}
use Rattle.elf_update_in_place.proofs.writes.pieces.write_piece.Goals as goal

pub next_multiple_of-at-requires-clause-fits : goal.next_multiple_of-at-requires-clause-fits
next_multiple_of-at-requires-clause-fits g c =
    let piece = get_or (stored_pieces c.args.elf.now.o c.args.part) c.args.p absent_piece in
    let place = stands_at c.args.end piece.0 c.piece-piece.result.align c.max.result
    (next_multiple_of c.args.end c.max.result)
    c.piece-piece.ensures.align c.max.ensures refl in
    omega (arith, place, c.requires.small)

pub write_fill-requires-clause-may : goal.write_fill-requires-clause-may
write_fill-requires-clause-may g c =
    let piece = get_or (stored_pieces c.args.elf.now.o c.args.part) c.args.p absent_piece in
    let place = stands_at c.args.end piece.0 c.piece-piece.result.align c.max.result c.next_multiple_of-at.result
    c.piece-piece.ensures.align c.max.ensures c.next_multiple_of-at.ensures.value in
    gap_may g.D.Source g.D.Device c.args.start c.args.end c.args.fill
    (get_or (stored_pieces c.args.elf.now.o c.args.part) c.args.p absent_piece)
    (c.next_multiple_of-at.result - c.args.end) (ap (λ (n : ℕ). n - c.args.end) place) c.args.elf.now c.requires.may

pub returns-in-Err-clause-over : goal.returns-in-Err-clause-over
returns-in-Err-clause-over g c =
    let piece = get_or (stored_pieces c.args.elf.now.o c.args.part) c.args.p absent_piece in
    let place = stands_at c.args.end piece.0 c.piece-piece.result.align c.max.result c.next_multiple_of-at.result
    c.piece-piece.ensures.align c.max.ensures c.next_multiple_of-at.ensures.value in
    gap_stops g.D.Source g.D.Device c.args.start c.args.end c.args.fill
    (get_or (stored_pieces c.args.elf.now.o c.args.part) c.args.p absent_piece)
    (c.next_multiple_of-at.result - c.args.end) (ap (λ (n : ℕ). n - c.args.end) place) {T = ℕ}
    c.in-Err.e c.args.elf.now c.write_fill.new.elf
    c.in-Err.ensures.filled

pub overflow_add-start-2 : goal.overflow_add-start-2
overflow_add-start-2 g c =
    let piece = get_or (stored_pieces c.args.elf.now.o c.args.part) c.args.p absent_piece in
    let place = stands_at c.args.end piece.0 c.piece-piece.result.align c.max.result c.next_multiple_of-at.result
    c.piece-piece.ensures.align c.max.ensures c.next_multiple_of-at.ensures.value in
    omega (arith, place, c.requires.small)

pub write_range-requires-clause-stored : goal.write_range-requires-clause-stored
write_range-requires-clause-stored g c =
    let over = c.in_default.ensures.filled in
    stored_after c.args.elf.now c.write_fill.new.elf over.change.state over.change.long
    c.dirty-object.ensures.sound.object c.requires.stored

pub write_range-requires-clause-held : goal.write_range-requires-clause-held
write_range-requires-clause-held g c =
    at_hand_after c.args.elf.now c.write_fill.new.elf c.in_default.ensures.filled.change.state
    c.args.part c.requires.held

pub write_range-requires-clause-long : goal.write_range-requires-clause-long
write_range-requires-clause-long g c =
    let same = pieces_after c.args.elf.now c.write_fill.new.elf c.in_default.ensures.filled.change.state c.args.part in
    c.piece-piece.ensures.len ∙ ap (λ (ps : List (ℕ × List ℕ)). length (get_or ps c.args.p absent_piece).1) (sym same)

pub write_range-requires-clause-may : goal.write_range-requires-clause-may
write_range-requires-clause-may g c =
    let piece = get_or (stored_pieces c.args.elf.now.o c.args.part) c.args.p absent_piece in
    let place = stands_at c.args.end piece.0 c.piece-piece.result.align c.max.result c.next_multiple_of-at.result
    c.piece-piece.ensures.align c.max.ensures c.next_multiple_of-at.ensures.value in
    let up = rounded_up-ge c.args.end piece.0 in
    subst (MayOverwrite g.D.Source c.write_fill.new.elf
    (c.args.start + c.next_multiple_of-at.result)) (sym c.piece-piece.ensures.len)
    (piece_may g.D.Source g.D.Device c.args.start c.args.end c.args.fill
    (get_or (stored_pieces c.args.elf.now.o c.args.part) c.args.p absent_piece)
    (c.next_multiple_of-at.result - c.args.end) (ap (λ (n : ℕ). n - c.args.end) place)
    c.args.elf.now c.write_fill.new.elf c.next_multiple_of-at.result
    (omega (arith, place, up)) c.requires.may c.in_default.ensures.filled)

pub returns-in-Err-write_range-clause-over : goal.returns-in-Err-write_range-clause-over
returns-in-Err-write_range-clause-over g c =
    let piece = get_or (stored_pieces c.args.elf.now.o c.args.part) c.args.p absent_piece in
    let place = stands_at c.args.end piece.0 c.piece-piece.result.align c.max.result c.next_multiple_of-at.result
    c.piece-piece.ensures.align c.max.ensures c.next_multiple_of-at.ensures.value in
    let up = rounded_up-ge c.args.end piece.0 in
    let same = pieces_after c.args.elf.now c.write_fill.new.elf c.in_default.ensures.filled.change.state c.args.part in
    piece_stops g.D.Source g.D.Device c.args.start c.args.end c.args.fill
    (get_or (stored_pieces c.args.elf.now.o c.args.part) c.args.p absent_piece)
    (c.next_multiple_of-at.result - c.args.end) (ap (λ (n : ℕ). n - c.args.end) place) {T = ℕ}
    c.in-Err-write_range.e c.args.elf.now
    c.write_fill.new.elf c.write_range.new.elf c.next_multiple_of-at.result _
    (g.met.D.Source.sized c.args.elf.now.source)
    (omega (arith, place, up)) (ap (λ (ps : List (ℕ × List ℕ)). (get_or ps c.args.p absent_piece).1)
    same) c.requires.may
    c.in_default.ensures.filled c.in-Err-write_range.ensures.over

pub overflow_add-result : goal.overflow_add-result
overflow_add-result g c =
    let piece = get_or (stored_pieces c.args.elf.now.o c.args.part) c.args.p absent_piece in
    let place = stands_at c.args.end piece.0 c.piece-piece.result.align c.max.result c.next_multiple_of-at.result
    c.piece-piece.ensures.align c.max.ensures c.next_multiple_of-at.ensures.value in
    omega (arith, place, c.piece-piece.ensures.len, c.requires.small)

pub returns-clause-end : goal.returns-clause-end
returns-clause-end g c =
    let piece = get_or (stored_pieces c.args.elf.now.o c.args.part) c.args.p absent_piece in
    let place = stands_at c.args.end piece.0 c.piece-piece.result.align c.max.result c.next_multiple_of-at.result
    c.piece-piece.ensures.align c.max.ensures c.next_multiple_of-at.ensures.value in
    omega (arith, place, c.piece-piece.ensures.len)

pub returns-clause-over : goal.returns-clause-over
returns-clause-over g c =
    let piece = get_or (stored_pieces c.args.elf.now.o c.args.part) c.args.p absent_piece in
    let place = stands_at c.args.end piece.0 c.piece-piece.result.align c.max.result c.next_multiple_of-at.result
    c.piece-piece.ensures.align c.max.ensures c.next_multiple_of-at.ensures.value in
    let up = rounded_up-ge c.args.end piece.0 in
    let same = pieces_after c.args.elf.now c.write_fill.new.elf c.in_default.ensures.filled.change.state c.args.part in
    piece_ends g.D.Source g.D.Device c.args.start c.args.end c.args.fill
    (get_or (stored_pieces c.args.elf.now.o c.args.part) c.args.p absent_piece)
    (c.next_multiple_of-at.result - c.args.end) (ap (λ (n : ℕ). n - c.args.end) place) _ c.args.elf.now
    c.write_fill.new.elf c.write_range.new.elf c.next_multiple_of-at.result _
    (g.met.D.Source.sized c.args.elf.now.source)
    (omega (arith, place, up)) (ap (λ (ps : List (ℕ × List ℕ)). (get_or ps c.args.p absent_piece).1)
    same) c.requires.may
    c.in_default.ensures.filled c.in_default-write_range.ensures.over
