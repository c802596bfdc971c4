use Rattle.std.proofs.Common.{◌≡◌, ℕ, List, ◌+◌, ◌<◌, ◌^◌, Ok, Err, length, get_or, refl, sym, subst, ◌∙◌, arith}
use Rattle.elf_layout.specs.Layout.{rounded_up}
use Rattle.elf_update_to.specs.Origins.{absent_piece}
use Rattle.elf_update_to.specs.Descriptors.{stored_pieces}
use Rattle.elf_update_to.specs.Pieces.{filled_piece}
use Rattle.elf_update_in_place.specs.Writes.Overwrites.{MayOverwrite, Overwrites}
use Rattle.elf_update_in_place.proofs.writes.RebaseLaws.{stored_after, pieces_after, at_hand_after}
use Rattle.elf_update_in_place.proofs.writes.OverPieces.{part_starts, next_within, next_may, next_stops, next_stands, part_ends}
use Rattle.elf_update_in_place.proofs.writes.pieces.write_part.Goals as goal

pub loop-p-init : goal.loop-p-init
loop-p-init g c = record {
  put = part_starts g.D.Source g.D.Device c.args.part.at c.args.fill (stored_pieces c.args.elf.now.o c.args.part.part)
      c.args.elf.now c.args.part.len c.requires.may;
  page = refl;
}

pub write_piece-requires-clause-stored : goal.write_piece-requires-clause-stored
write_piece-requires-clause-stored g c =
    let over = c.loop-p.invariant.put.over in
    stored_after c.args.elf.now c.loop-p.elf over.change.state over.change.long
    c.dirty-object.ensures.sound.object c.requires.stored

pub write_piece-requires-clause-held : goal.write_piece-requires-clause-held
write_piece-requires-clause-held g c =
    at_hand_after c.args.elf.now c.loop-p.elf c.loop-p.invariant.put.over.change.state c.args.part.part c.requires.held

pub write_piece-requires-clause-there : goal.write_piece-requires-clause-there
write_piece-requires-clause-there g c =
    let same = pieces_after c.args.elf.now c.loop-p.elf c.loop-p.invariant.put.over.change.state c.args.part.part in
    subst (λ (ps : List (ℕ × List ℕ)). c.loop-p.p < length ps) (sym same)
    (omega (arith, c.loop-p-test.true, c.piece_count-count.ensures))

pub write_piece-requires-clause-small : goal.write_piece-requires-clause-small
write_piece-requires-clause-small g c =
    let l = c.loop-p in
    let pieces = stored_pieces c.args.elf.now.o c.args.part.part in
    let same = pieces_after c.args.elf.now l.elf l.invariant.put.over.change.state c.args.part.part in
    let within = next_within g.D.Source g.D.Device c.args.part.at c.args.fill
    (stored_pieces c.args.elf.now.o c.args.part.part) c.args.elf.now l.elf
    l.p l.end (omega (arith, c.loop-p-test.true, c.piece_count-count.ensures)) l.invariant.put in
    subst (λ (ps : List (ℕ × List ℕ)). c.args.part.at
    + (rounded_up l.end (get_or ps l.p absent_piece).0 + length (get_or ps l.p absent_piece).1) < 2 ^ 64)
    (sym same) (omega (arith, within, c.requires.long, c.requires.small))

pub write_piece-requires-clause-may : goal.write_piece-requires-clause-may
write_piece-requires-clause-may g c =
    let l = c.loop-p in
    let same = pieces_after c.args.elf.now l.elf l.invariant.put.over.change.state c.args.part.part in
    subst (λ (ps : List (ℕ × List ℕ)). MayOverwrite g.D.Source l.elf (c.args.part.at + l.end)
    (length (filled_piece (get_or ps l.p absent_piece) l.end c.args.fill)))
    (sym same)
    (next_may g.D.Source g.D.Device c.args.part.at c.args.fill
    (stored_pieces c.args.elf.now.o c.args.part.part) c.args.elf.now l.elf
    c.args.part.len l.p l.end c.requires.long
    (omega (arith, c.loop-p-test.true, c.piece_count-count.ensures)) c.requires.may l.invariant.put)

pub returns-in-Err-clause-over : goal.returns-in-Err-clause-over
returns-in-Err-clause-over g c =
    let l = c.loop-p in
    let same = pieces_after c.args.elf.now l.elf l.invariant.put.over.change.state c.args.part.part in
    next_stops g.D.Source g.D.Device c.args.part.at c.args.fill
    (stored_pieces c.args.elf.now.o c.args.part.part) {T = ℕ} c.in-Err.e c.args.elf.now l.elf
    c.write_piece.new.elf c.args.part.len l.p l.end (g.met.D.Source.sized c.args.elf.now.source) c.requires.long
    (omega (arith, c.loop-p-test.true, c.piece_count-count.ensures)) c.requires.may l.invariant.put
    (subst (λ (ps : List (ℕ × List ℕ)). Overwrites {T = ℕ} g.D.Source g.D.Device
    (Err c.in-Err.e) l.elf c.write_piece.new.elf (c.args.part.at + l.end)
    (filled_piece (get_or ps l.p absent_piece) l.end c.args.fill)) same c.in-Err.ensures.over)

pub loop-p-preserved : goal.loop-p-preserved
loop-p-preserved g c =
    let l = c.loop-p in
    let same = pieces_after c.args.elf.now l.elf l.invariant.put.over.change.state c.args.part.part in record {
      put =
          next_stands g.D.Source g.D.Device c.args.part.at c.args.fill
          (stored_pieces c.args.elf.now.o c.args.part.part) c.in-Ok.after c.args.elf.now l.elf
          c.write_piece.new.elf c.args.part.len l.p l.end c.in-Ok.after
          (g.met.D.Source.sized c.args.elf.now.source) c.requires.long
          (omega (arith, c.loop-p-test.true, c.piece_count-count.ensures))
          (subst (λ (ps : List (ℕ × List ℕ)). c.in-Ok.after ≡ rounded_up l.end
          (get_or ps l.p absent_piece).0 + length (get_or ps l.p absent_piece).1) same
          c.in-Ok.ensures.end)
          c.requires.may l.invariant.put
          (subst (λ (ps : List (ℕ × List ℕ)). Overwrites g.D.Source g.D.Device (Ok c.in-Ok.after)
          l.elf c.write_piece.new.elf (c.args.part.at + l.end)
          (filled_piece (get_or ps l.p absent_piece) l.end c.args.fill)) same c.in-Ok.ensures.over);
      page = c.in-Ok.ensures.page ∙ l.invariant.page;
    }

pub returns-clause-over : goal.returns-clause-over
returns-clause-over g c =
    part_ends g.D.Source g.D.Device c.args.part.at c.args.fill
    (stored_pieces c.args.elf.now.o c.args.part.part) c.args.elf.now c.loop-p.elf
    c.loop-p.p c.loop-p.end (omega (arith, c.loop-p-test.false, c.piece_count-count.ensures)) c.loop-p.invariant.put
