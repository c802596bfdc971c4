-- One piece more is read.
use Rattle.std.proofs.Common.{◌≡◌, ◌∙◌, ◌*◌, ◌+◌, ◌≤◌, ℕ, length, take, ap, arith}
use Rattle.elf_xlate.specs.Headers.{shdr_size}
use Rattle.elf_ident.proofs.TableLemmas.{whole_entries}
use Rattle.elf_ident.proofs.PieceLemmas.{none_first, more_first, asks_stopped, all_first, piece_within, front_length, front_kept}
use Rattle.elf_ident.proofs.tables.read_pieces.Goals as goal

pub loop-done-init : goal.loop-done-init
loop-done-init g c = record {
  first = none_first g.S.Source c.args.h.now c.args.src.now c.args.shdrs.now c.requires.none;
  within = omega arith;
  room = c.requires.room;
}

pub overflow_add-at : goal.overflow_add-at
overflow_add-at g c =
    let l = c.loop-done in
    let size = shdr_size c.args.h.now.class in
    let before : c.table_size-before.result ≡ l.done * size =
    c.table_size-before.ensures ∙ ap (λ (s : ℕ). l.done * s) c.shdr_size-size.ensures in
    let inside =
    piece_within c.args.count l.done 0 size c.args.h.now.shoff
    (c.args.h.now.shoff + c.args.count * size) (omega (arith, l.invariant.within)) (omega arith) in
    omega (arith, before, inside, c.requires.small)

pub read_piece-requires-clause-whole : goal.read_piece-requires-clause-whole
read_piece-requires-clause-whole g c =
    let l = c.loop-done in
    let n = c.piece_size-len.result in
    let size = shdr_size c.args.h.now.class in
    let most : n ≤ length l.buffer =
    omega (arith, c.piece_size-len.ensures.most, c.shdr_size-size.ensures, l.invariant.room) in
    let whole : n ≡ c.min-some.result * size =
    c.piece_size-len.ensures.value
    ∙ ap (λ (s : ℕ). c.min-some.result * s) c.shdr_size-size.ensures in
    whole_entries (length (take n l.buffer)) c.min-some.result size
    (front_length n l.buffer most ∙ whole)

pub read_piece-requires-clause-within : goal.read_piece-requires-clause-within
read_piece-requires-clause-within g c =
    let l = c.loop-done in
    let n = c.piece_size-len.result in
    let some = c.min-some.result in
    let size = shdr_size c.args.h.now.class in
    let most : n ≤ length l.buffer =
    omega (arith, c.piece_size-len.ensures.most, c.shdr_size-size.ensures, l.invariant.room) in
    let long = front_length n l.buffer most in
    let whole : n ≡ some * size =
    c.piece_size-len.ensures.value ∙ ap (λ (s : ℕ). some * s) c.shdr_size-size.ensures in
    let before : c.table_size-before.result ≡ l.done * size =
    c.table_size-before.ensures ∙ ap (λ (s : ℕ). l.done * s) c.shdr_size-size.ensures in
    let same = l.invariant.first.asks.leaves.same_len in
    let inside =
    piece_within c.args.count l.done some size c.args.h.now.shoff
    (g.S.Source.size c.args.src.now) (omega (arith, c.min-some.ensures, l.invariant.within))
    c.requires.within in
    omega (arith, long, whole, before, same, inside)

pub returns-in-Err-clause-asks : goal.returns-in-Err-clause-asks
returns-in-Err-clause-asks g c =
    let l = c.loop-done in
    let n = c.piece_size-len.result in
    let some = c.min-some.result in
    let size = shdr_size c.args.h.now.class in
    let most : n ≤ length l.buffer =
    omega (arith, c.piece_size-len.ensures.most, c.shdr_size-size.ensures, l.invariant.room) in
    let whole : n ≡ some * size =
    c.piece_size-len.ensures.value ∙ ap (λ (s : ℕ). some * s) c.shdr_size-size.ensures in
    asks_stopped g.S.Source c.args.h.now c.in-Err.e c.args.count l.done some
    (length (take n l.buffer)) c.args.src.now l.src c.read_piece.new.src
    (omega (arith, c.min-some.ensures, l.invariant.within))
    (front_length n l.buffer most ∙ whole) l.invariant.first.asks c.in-Err.ensures.asks

pub loop-done-preserved : goal.loop-done-preserved
loop-done-preserved g c =
    let l = c.loop-done in
    let n = c.piece_size-len.result in
    let some = c.min-some.result in
    let size = shdr_size c.args.h.now.class in
    let most : n ≤ length l.buffer =
    omega (arith, c.piece_size-len.ensures.most, c.shdr_size-size.ensures, l.invariant.room) in
    let long = front_length n l.buffer most in
    let whole : n ≡ some * size =
    c.piece_size-len.ensures.value ∙ ap (λ (s : ℕ). some * s) c.shdr_size-size.ensures in
    let before : c.table_size-before.result ≡ l.done * size =
    c.table_size-before.ensures ∙ ap (λ (s : ℕ). l.done * s) c.shdr_size-size.ensures in
    record {
      first =
          more_first g.S.Source c.args.h.now l.done some (length (take n l.buffer))
          (c.args.h.now.shoff + c.table_size-before.result) c.args.src.now l.src
          c.read_piece.new.src l.shdrs c.read_piece.new.shdrs l.invariant.first (long ∙ whole)
          (ap (λ (k : ℕ). c.args.h.now.shoff + k) before) c.in_default.ensures.asks
          c.in_default.ensures.value c.in_default.ensures.table;
      within = omega (arith, c.min-some.ensures, l.invariant.within);
      room =
          front_kept c.read_piece.new.bytes l.buffer n (1024 * size)
          (c.in_default.ensures.len ∙ long) most l.invariant.room;
    }

pub returns-clause-value : goal.returns-clause-value
returns-clause-value g c =
    let l = c.loop-done in
    (all_first g.S.Source c.args.h.now l.done c.args.count c.args.src.now l.src l.shdrs
    (omega (arith, l.invariant.within)) l.invariant.first).value

pub returns-clause-table : goal.returns-clause-table
returns-clause-table g c =
    let l = c.loop-done in
    (all_first g.S.Source c.args.h.now l.done c.args.count c.args.src.now l.src l.shdrs
    (omega (arith, l.invariant.within)) l.invariant.first).table

pub returns-clause-asks : goal.returns-clause-asks
returns-clause-asks g c =
    let l = c.loop-done in
    (all_first g.S.Source c.args.h.now l.done c.args.count c.args.src.now l.src l.shdrs
    (omega (arith, l.invariant.within)) l.invariant.first).asks
