-- One piece more is read.
use Rattle.std.proofs.Common.{◌≡◌, ◌∙◌, ◌*◌, ◌+◌, ◌^◌, ◌≤◌, ℕ, length, take, ap, arith}
use Rattle.std.proofs.Math.Nat.{add-mul}
use Rattle.elf_xlate.specs.Headers.{shdr_size}
use Rattle.elf_ident.proofs.TableLemmas.{shdr_size_some, whole_entries, entries_count}
use Rattle.elf_ident.proofs.PieceLemmas.{piece_within, front_length, front_kept}
use Rattle.size_tool.proofs.SumLemmas.{within_more}
use Rattle.size_tool.proofs.TableSums.{none_summed, more_summed, stopped_summed, all_asked, all_told}
use Rattle.size_tool.proofs.headers.sum_pieces.Goals as goal

pub loop-done-init : goal.loop-done-init
loop-done-init g c = record {
  first =
      none_summed g.S.Source c.args.h.now c.args.count c.args.src.now c.no_sums-sums.result
      c.no_sums-sums.ensures.sums c.no_sums-sums.ensures.within;
  within = omega arith;
  place = omega arith;
  room = c.requires.room;
}

pub add_piece-requires-clause-whole : goal.add_piece-requires-clause-whole
add_piece-requires-clause-whole g c =
    let l = c.loop-done in
    let n = c.piece_size-len.result in
    let some = c.min-some.result in
    let size = shdr_size c.args.h.now.class in
    let long =
    front_length n l.buffer
    (omega (arith, c.piece_size-len.ensures.most, l.invariant.room)) in
    let whole : n ≡ some * size =
    c.piece_size-len.ensures.value ∙ ap (λ (s : ℕ). some * s) c.shdr_size-size.ensures in
    whole_entries (length (take n l.buffer)) some size (long ∙ whole)

pub add_piece-requires-clause-few : goal.add_piece-requires-clause-few
add_piece-requires-clause-few g c =
    let l = c.loop-done in
    let n = c.piece_size-len.result in
    let some = c.min-some.result in
    let size = shdr_size c.args.h.now.class in
    let long =
    front_length n l.buffer
    (omega (arith, c.piece_size-len.ensures.most, l.invariant.room)) in
    let whole : n ≡ some * size =
    c.piece_size-len.ensures.value ∙ ap (λ (s : ℕ). some * s) c.shdr_size-size.ensures in
    let entries =
    entries_count (length (take n l.buffer)) some size (shdr_size_some c.args.h.now.class)
    (long ∙ whole) in
    omega (arith, entries, c.min-some.ensures)

pub add_piece-requires-clause-within : goal.add_piece-requires-clause-within
add_piece-requires-clause-within g c =
    let l = c.loop-done in
    within_more l.done (2 ^ 20) l.sums (omega (arith, l.invariant.within, c.requires.few))
    l.invariant.first.within

pub add_piece-requires-clause-inside : goal.add_piece-requires-clause-inside
add_piece-requires-clause-inside g c =
    let l = c.loop-done in
    let n = c.piece_size-len.result in
    let some = c.min-some.result in
    let size = shdr_size c.args.h.now.class in
    let long =
    front_length n l.buffer
    (omega (arith, c.piece_size-len.ensures.most, l.invariant.room)) in
    let whole : n ≡ some * size =
    c.piece_size-len.ensures.value ∙ ap (λ (s : ℕ). some * s) c.shdr_size-size.ensures in
    let same = l.invariant.first.asks.leaves.same_len in
    let inside =
    piece_within c.args.count l.done some size c.args.h.now.shoff
    (g.S.Source.size c.args.src.now) (omega (arith, c.min-some.ensures, l.invariant.within))
    c.requires.inside in
    omega (arith, long, whole, l.invariant.place, same, inside)

pub returns-in-Err-clause-asks : goal.returns-in-Err-clause-asks
returns-in-Err-clause-asks g c =
    let l = c.loop-done in
    let n = c.piece_size-len.result in
    let some = c.min-some.result in
    let size = shdr_size c.args.h.now.class in
    let long =
    front_length n l.buffer
    (omega (arith, c.piece_size-len.ensures.most, l.invariant.room)) in
    let whole : n ≡ some * size =
    c.piece_size-len.ensures.value ∙ ap (λ (s : ℕ). some * s) c.shdr_size-size.ensures in
    stopped_summed g.S.Source c.args.h.now c.args.count c.in-Err.e l.done some
    (length (take n l.buffer)) c.args.src.now l.src c.add_piece.new.src l.sums
    (omega (arith, c.min-some.ensures, l.invariant.within)) (long ∙ whole) l.invariant.first
    c.in-Err.ensures.asks

pub overflow_add-at : goal.overflow_add-at
overflow_add-at g c =
    let l = c.loop-done in
    let n = c.piece_size-len.result in
    let some = c.min-some.result in
    let size = shdr_size c.args.h.now.class in
    let whole : n ≡ some * size =
    c.piece_size-len.ensures.value ∙ ap (λ (s : ℕ). some * s) c.shdr_size-size.ensures in
    let inside =
    piece_within c.args.count l.done some size c.args.h.now.shoff
    (c.args.h.now.shoff + c.args.count * size)
    (omega (arith, c.min-some.ensures, l.invariant.within)) (omega arith) in
    omega (arith, whole, l.invariant.place, inside, c.requires.small)

pub loop-done-preserved : goal.loop-done-preserved
loop-done-preserved g c =
    let l = c.loop-done in
    let n = c.piece_size-len.result in
    let some = c.min-some.result in
    let size = shdr_size c.args.h.now.class in
    let most : n ≤ length l.buffer =
    omega (arith, c.piece_size-len.ensures.most, l.invariant.room) in
    let long = front_length n l.buffer most in
    let whole : n ≡ some * size =
    c.piece_size-len.ensures.value ∙ ap (λ (s : ℕ). some * s) c.shdr_size-size.ensures in
    let sum = add-mul l.done some size in
    record {
      first =
          more_summed g.S.Source c.args.h.now c.args.count l.done some
          (length (take n l.buffer)) l.at c.args.src.now l.src c.add_piece.new.src
          c.add_piece.new.bytes l.sums c.in-Ok.more l.invariant.first
          (omega (arith, c.min-some.ensures, l.invariant.within)) (long ∙ whole)
          l.invariant.place c.in-Ok.ensures.asks c.in-Ok.ensures.bytes c.in-Ok.ensures.adds;
      within = omega (arith, c.min-some.ensures, l.invariant.within);
      place = omega (arith, whole, l.invariant.place, sum);
      room =
          front_kept c.add_piece.new.bytes l.buffer n 2048 (c.in-Ok.ensures.len ∙ long) most
          l.invariant.room;
    }

pub returns-clause-value : goal.returns-clause-value
returns-clause-value g c =
    let l = c.loop-done in
    all_told g.S.Source c.args.h.now c.args.count l.done c.args.src.now l.src l.sums
    (omega (arith, l.invariant.within)) l.invariant.first

pub returns-clause-within : goal.returns-clause-within
returns-clause-within g c =
    let l = c.loop-done in
    within_more l.done (2 ^ 32) l.sums (omega (arith, l.invariant.within, c.requires.few))
    l.invariant.first.within

pub returns-clause-asks : goal.returns-clause-asks
returns-clause-asks g c =
    let l = c.loop-done in
    all_asked g.S.Source c.args.h.now c.args.count l.done c.args.src.now l.src l.sums
    (omega (arith, l.invariant.within)) l.invariant.first
