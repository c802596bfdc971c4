use Rattle.std.proofs.Common.{ℕ, List, ◌+◌, ◌≤◌, Ok, Err, length, take, drop, get_or, refl, sym, subst, ◌∙◌, arith}
use Rattle.elf_update_to.specs.Origins.{absent_piece}
use Rattle.elf_update_to.specs.Descriptors.{stored_pieces}
use Rattle.elf_update_in_place.specs.Writes.Overwrites.{MayOverwrite, Overwrites}
use Rattle.elf_update_in_place.proofs.writes.OverLaws.{over_none}
use Rattle.elf_update_in_place.proofs.writes.RebaseLaws.{stored_after, pieces_after, at_hand_after}
use Rattle.elf_update_in_place.proofs.writes.OverPieces.{range_may, range_step, range_stops, page_length, page_kept}
use Rattle.elf_update_in_place.proofs.writes.pieces.write_range.Goals as goal

pub loop-done-init : goal.loop-done-init
loop-done-init g c = record {
  over = over_none g.D.Source g.D.Device c.args.elf.now c.args.at c.requires.may.base;
  within = omega arith;
  page = refl;
}

pub write_some-requires-clause-stored : goal.write_some-requires-clause-stored
write_some-requires-clause-stored g c =
    let over = c.loop-done.invariant.over in
    stored_after c.args.elf.now c.loop-done.elf over.change.state over.change.long
    c.dirty-object.ensures.sound.object c.requires.stored

pub write_some-requires-clause-held : goal.write_some-requires-clause-held
write_some-requires-clause-held g c =
    at_hand_after c.args.elf.now c.loop-done.elf c.loop-done.invariant.over.change.state c.args.part c.requires.held

pub write_some-requires-clause-there : goal.write_some-requires-clause-there
write_some-requires-clause-there g c =
    let l = c.loop-done in
    let n = c.min-some.result in
    let same = pieces_after c.args.elf.now l.elf l.invariant.over.change.state c.args.part in
    let long = page_length l.page n (omega (arith, c.min-some.ensures)) in
    subst (λ (ps : List (ℕ × List ℕ)). l.done + length (take n l.page)
    ≤ length (get_or ps c.args.p absent_piece).1) (sym same)
    (omega (arith, long, c.min-some.ensures, l.invariant.within, c.requires.long))

pub write_some-requires-clause-may : goal.write_some-requires-clause-may
write_some-requires-clause-may g c =
    let l = c.loop-done in
    let n = c.min-some.result in
    let long = page_length l.page n (omega (arith, c.min-some.ensures)) in
    subst (λ (k : ℕ). MayOverwrite g.D.Source l.elf (c.args.at + l.done) k) (sym long)
    (range_may g.D.Source g.D.Device c.args.at c.args.len l.done
    (get_or (stored_pieces c.args.elf.now.o c.args.part) c.args.p absent_piece).1
    c.requires.long c.args.elf.now l.elf n (omega (arith, c.min-some.ensures, l.invariant.within))
    c.requires.may l.invariant.over)

pub returns-in-Err-clause-over : goal.returns-in-Err-clause-over
returns-in-Err-clause-over g c =
    let l = c.loop-done in
    let n = c.min-some.result in
    let piece = (get_or (stored_pieces c.args.elf.now.o c.args.part) c.args.p absent_piece).1 in
    let same = pieces_after c.args.elf.now l.elf l.invariant.over.change.state c.args.part in
    let long = page_length l.page n (omega (arith, c.min-some.ensures)) in
    range_stops g.D.Source g.D.Device c.args.at c.args.len (l.done + n)
    (get_or (stored_pieces c.args.elf.now.o c.args.part) c.args.p absent_piece).1
    c.requires.long c.in-Err.e c.args.elf.now c.write_some.new.elf
    (range_step g.D.Source g.D.Device c.args.at c.args.len l.done
    (get_or (stored_pieces c.args.elf.now.o c.args.part) c.args.p absent_piece).1
    c.requires.long (Err c.in-Err.e) c.args.elf.now l.elf c.write_some.new.elf n
    (g.met.D.Source.sized c.args.elf.now.source)
    (omega (arith, c.min-some.ensures, l.invariant.within)) c.requires.may l.invariant.over
    (subst (λ (k : ℕ). Overwrites {T = Unit {0}} g.D.Source g.D.Device (Err c.in-Err.e) l.elf
    c.write_some.new.elf (c.args.at + l.done)
    (take k (drop l.done (get_or (stored_pieces c.args.elf.now.o c.args.part) c.args.p absent_piece).1))) long
    (subst (λ (ps : List (ℕ × List ℕ)). Overwrites {T = Unit {0}} g.D.Source g.D.Device
    (Err c.in-Err.e) l.elf c.write_some.new.elf (c.args.at + l.done)
    (take (length (take n l.page)) (drop l.done (get_or ps c.args.p absent_piece).1))) same c.in-Err.ensures.over)))

pub loop-done-preserved : goal.loop-done-preserved
loop-done-preserved g c =
    let l = c.loop-done in
    let n = c.min-some.result in
    let same = pieces_after c.args.elf.now l.elf l.invariant.over.change.state c.args.part in
    let long = page_length l.page n (omega (arith, c.min-some.ensures)) in record {
      over =
          range_step g.D.Source g.D.Device c.args.at c.args.len l.done
          (get_or (stored_pieces c.args.elf.now.o c.args.part) c.args.p absent_piece).1
          c.requires.long (Ok tt) c.args.elf.now l.elf c.write_some.new.elf n
          (g.met.D.Source.sized c.args.elf.now.source)
          (omega (arith, c.min-some.ensures, l.invariant.within)) c.requires.may l.invariant.over
          (subst (λ (k : ℕ). Overwrites {T = Unit {0}} g.D.Source g.D.Device
          (Ok tt) l.elf c.write_some.new.elf (c.args.at + l.done)
          (take k (drop l.done (get_or (stored_pieces c.args.elf.now.o c.args.part) c.args.p absent_piece).1))) long
          (subst (λ (ps : List (ℕ × List ℕ)). Overwrites {T = Unit {0}} g.D.Source g.D.Device
          (Ok tt) l.elf c.write_some.new.elf (c.args.at + l.done)
          (take (length (take n l.page)) (drop l.done (get_or ps c.args.p absent_piece).1))) same
          c.in_default.ensures.over));
      within = omega (arith, c.min-some.ensures, l.invariant.within);
      page = page_kept c.write_some.new.buf l.page n (length c.args.page.now) (c.in_default.ensures.len ∙ long)
          (omega (arith, c.min-some.ensures)) l.invariant.page;
    }
