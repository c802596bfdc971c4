-- The pieces of a section one after the other: the first that covers an offset, and where the last one ends.
use Rattle.std.proofs.Common.{◌≡◌, ℕ, zero, suc, ◌+◌, ◌-◌, ◌<◌, ◌≤◌, ◌&&◌, Bool, true, false, List, [], ◌∷◌, length, take, drop, map, Option, Some, None, refl, sym, ap, ◌∙◌, subst, arith}
use Rattle.std.specs.Prelude.{◌^◌, min, nat_le, nat_lt, slice_get, filter, is_none}
use Rattle.std.proofs.Math.ListN.{drop_of_length-le}
use Rattle.std.proofs.lemmas.Bool.{lt-leb, le-ltb, leb-true, ltb-true, and_left, and_right, cond-true, cond-false}
use Rattle.std.proofs.lemmas.List.{length-map}
use Rattle.elf_types.specs.declared.errors.ElfError.TheVariants.{NoString}
use Rattle.elf_types.specs.Answers.{refused_if}
use Rattle.elf_descriptor.specs.elf_layout.Layout.{rounded_up}
use Rattle.elf_descriptor.specs.elf_object.Blocks.{Block, block_end, block_covers, stacked, last_end}
use Rattle.elf_descriptor.specs.elf_object.Object.{Object, Piece, section_at, piece_at}
use Rattle.elf_descriptor.specs.elf_object.Answers.{piece_count}
use Rattle.elf_descriptor.specs.elf_object.Joined.{piece_bytes, aligned_pieces, piece_blocks, pieces_end}
use Rattle.elf_descriptor.specs.elf_object.Strings.{piece_over, no_string}
use Rattle.elf_descriptor.proofs.elf_object.RunningEnds.{end_later, pieces_from}
use Rattle.elf_descriptor.specs.FirstPieces.{AreFirst}
use Rattle.gelf_view.specs.declared.string_places.Stand.{Stand}
use Rattle.gelf_view.specs.declared.string_places.Stand.TheVariants.{Covers, Ends, Before}
use Rattle.gelf_view.specs.Strings.{bytes_in, is_in_piece, IsOver, Stands}
use Rattle.gelf_view.proofs.NoteLemmas.{rounded_up_le}

left_of : (a b : Bool) → (a && b) ≡ true → a ≡ true
left_of true b both = refl
left_of false b both = both

right_of : (a b : Bool) → (a && b) ≡ true → b ≡ true
right_of true b both = both
right_of false b both = cc

-- the first block that covers an offset
abbrev pub first_over : List Block → ℕ → Option Block
first_over blocks offset = slice_get (filter (λ b. block_covers b offset) blocks) 0

-- a block at its place, and those after it
abbrev block_at : ℕ → ℕ → List ℕ → Block
block_at end align bytes = record { at = rounded_up end align; bytes = bytes }

covers_is : (end align : ℕ) (bytes : List ℕ) (offset : ℕ) → block_covers (block_at end align bytes) offset ≡ is_in_piece end align (length bytes) offset
unfolding block_covers block_end
covers_is end align bytes offset = refl

module _ (end align : ℕ) (bytes : List ℕ) (ps : List (ℕ × List ℕ)) (offset : ℕ) where
  abbrev blocks_from : List Block
  blocks_from = stacked end ((align, bytes) ∷ ps)

  abbrev blocks_after : List Block
  blocks_after = stacked (rounded_up end align + length bytes) ps

  stacked_first : blocks_from ≡ block_at end align bytes ∷ blocks_after
  unfolding stacked
  stacked_first = refl

  -- the first one covers it
  over_first : is_in_piece end align (length bytes) offset ≡ true → first_over blocks_from offset ≡ Some (block_at end align bytes)
  unfolding block_covers block_end stacked
  over_first within = ap (λ (l : List Block). slice_get l 0) (cond-true (is_in_piece end align (length bytes) offset) _ _ within)

  -- it does not
  over_others : is_in_piece end align (length bytes) offset ≡ false → first_over blocks_from offset ≡ first_over blocks_after offset
  unfolding block_covers block_end stacked
  over_others past = ap (λ (l : List Block). slice_get l 0) (cond-false (is_in_piece end align (length bytes) offset) _ _ past)

  end_after : last_end end blocks_from ≡ last_end (rounded_up end align + length bytes) blocks_after
  unfolding stacked last_end block_end
  end_after = refl

-- blocks that begin behind an offset do not cover it
pub over_none : (end : ℕ) (ps : List (ℕ × List ℕ)) (offset : ℕ) → offset < end → first_over (stacked end ps) offset ≡ None
unfolding stacked
over_none end [] offset before = refl
over_none end (p ∷ ps) offset before =
    let up = rounded_up_le end p.0 in
    over_others end p.0 p.1 ps offset (and_left (nat_le (rounded_up end p.0) offset) (nat_lt offset (rounded_up end p.0 + length p.1)) (lt-leb (rounded_up end p.0) offset (omega (arith, up, before))))
    ∙ over_none (rounded_up end p.0 + length p.1) ps offset (omega (arith, up, before))

-- blocks that end before an offset do not cover it
over_behind : (n end : ℕ) (ps : List (ℕ × List ℕ)) (offset : ℕ)
    → last_end end (stacked end (take n ps)) ≤ offset
    → first_over (stacked end ps) offset
    ≡ first_over (stacked (last_end end (stacked end (take n ps))) (drop n ps)) offset
unfolding stacked last_end block_end
over_behind zero end ps offset below = refl
over_behind (suc n) end [] offset below = refl
over_behind (suc n) end (p ∷ ps) offset below =
    let last : last_end (rounded_up end p.0 + length p.1)
    (stacked (rounded_up end p.0 + length p.1) (take n ps)) ≤ offset = below in
    let later = end_later (rounded_up end p.0 + length p.1) (take n ps) in
    let past =
    and_right (nat_le (rounded_up end p.0) offset)
    (nat_lt offset (rounded_up end p.0 + length p.1))
    (le-ltb offset (rounded_up end p.0 + length p.1) (omega (arith, later, last))) in
    over_others end p.0 p.1 ps offset past
    ∙ over_behind n (rounded_up end p.0 + length p.1) ps offset below

-- where the last of all ends
end_behind : (n end : ℕ) (ps : List (ℕ × List ℕ))
    → last_end end (stacked end ps)
    ≡ last_end (last_end end (stacked end (take n ps)))
    (stacked (last_end end (stacked end (take n ps))) (drop n ps))
unfolding stacked last_end block_end
end_behind zero end ps = refl
end_behind (suc n) end [] = refl
end_behind (suc n) end (p ∷ ps) = end_behind n (rounded_up end p.0 + length p.1) ps

-- ---- The pieces of a section

module _ (o : Object) (s offset : ℕ) where
  -- those from a piece on, after an end
  abbrev pub left_from : ℕ → ℕ → List Block
  left_from end p = stacked end (drop p (aligned_pieces o.header.class o.header.order (section_at o s)))

  -- what is left to look at: no piece before covers the offset
  pub record IsLeft (end p : ℕ) : Type 0 where
    pub over : piece_over o s offset ≡ first_over (left_from end p) offset
    pub size : pieces_end o s ≡ last_end end (left_from end p)

  -- behind the first pieces, which end before the offset
  pub left_behind : (count end : ℕ) → AreFirst o s count end → end ≤ offset → IsLeft end count
  unfolding piece_over piece_blocks pieces_end
  left_behind count end first within =
      let all = aligned_pieces o.header.class o.header.order (section_at o s) in
      let below = subst (λ (n : ℕ). n ≤ offset) (sym first.ends) within in
      record {
        over = over_behind count 0 all offset below
            ∙ ap (λ (n : ℕ). first_over (stacked n (drop count all)) offset) first.ends;
        size = end_behind count 0 all
            ∙ ap (λ (n : ℕ). last_end n (stacked n (drop count all))) first.ends;
      }

  -- the piece that comes next
  abbrev next_piece : ℕ → ℕ × List ℕ
  next_piece p = ((piece_at o s p).align, bytes_in o s p)

  next_from : (p : ℕ) → p < piece_count o s
      → drop p (aligned_pieces o.header.class o.header.order (section_at o s)) ≡ next_piece p ∷ drop (p + 1) (aligned_pieces o.header.class o.header.order (section_at o s))
  unfolding bytes_in
  next_from p there = pieces_from o s p there

  -- a piece that covers it
  pub left_covers : (end p : ℕ) → p < piece_count o s → IsLeft end p → is_in_piece end (piece_at o s p).align (length (bytes_in o s p)) offset ≡ true
      → piece_over o s offset ≡ Some (record { at = rounded_up end (piece_at o s p).align; bytes = bytes_in o s p })
  left_covers end p there left within =
      left.over
      ∙ ap (λ (l : List (ℕ × List ℕ)). first_over (stacked end l) offset) (next_from p there)
      ∙ over_first end (piece_at o s p).align (bytes_in o s p) (drop (p + 1) (aligned_pieces o.header.class o.header.order (section_at o s))) offset within

  -- one that does not
  pub left_next : (end p : ℕ) → p < piece_count o s → IsLeft end p → is_in_piece end (piece_at o s p).align (length (bytes_in o s p)) offset ≡ false
      → IsLeft (rounded_up end (piece_at o s p).align + length (bytes_in o s p)) (p + 1)
  left_next end p there left past =
      let rest = drop (p + 1) (aligned_pieces o.header.class o.header.order (section_at o s)) in
      record {
        over = left.over
            ∙ ap (λ (l : List (ℕ × List ℕ)). first_over (stacked end l) offset) (next_from p there)
            ∙ over_others end (piece_at o s p).align (bytes_in o s p) rest offset past;
        size = left.size
            ∙ ap (λ (l : List (ℕ × List ℕ)). last_end end (stacked end l)) (next_from p there)
            ∙ end_after end (piece_at o s p).align (bytes_in o s p) rest offset;
      }

  -- no piece covers it, and the size that is told is that of the pieces, or 2^64 - 1
  no_string_is : (size : ℕ) → piece_over o s offset ≡ None → min (pieces_end o s) (2 ^ 64 - 1) ≡ size → no_string o s offset ≡ Some (NoString offset size)
  no_string_is size none is =
      ap (λ (over : Option Block). refused_if (is_none over) (NoString offset (min (pieces_end o s) (2 ^ 64 - 1)))) none
      ∙ ap (λ (n : ℕ). Some (NoString offset n)) is

  -- the next piece begins behind the offset
  pub left_before : (end p size : ℕ) → p < piece_count o s
      → offset < rounded_up end (piece_at o s p).align → IsLeft end p
      → size ≡ min (pieces_end o s) (2 ^ 64 - 1)
      → no_string o s offset ≡ Some (NoString offset size)
  left_before end p size there before left is =
      let at = rounded_up end (piece_at o s p).align in
      let rest = drop (p + 1) (aligned_pieces o.header.class o.header.order (section_at o s)) in
      let past =
      and_left (nat_le at offset) (nat_lt offset (at + length (bytes_in o s p)))
      (lt-leb at offset before) in
      let next = left_next end p there left past in
      no_string_is size
      (next.over ∙ over_none (at + length (bytes_in o s p)) rest offset (omega (arith, before)))
      (sym is)

  -- none is left
  pub left_none : (end p : ℕ) → end < 2 ^ 64 → piece_count o s ≤ p → IsLeft end p
      → no_string o s offset ≡ Some (NoString offset end)
  unfolding piece_count aligned_pieces stacked last_end
  left_none end p small past left =
      let form : Piece → ℕ × List ℕ = λ q. (q.align, piece_bytes o.header.class o.header.order (section_at o s).raw q) in
      let pieces = (section_at o s).pieces in
      let many : length pieces ≤ p = past in
      let none : drop p (map form pieces) ≡ [] =
      drop_of_length-le (map form pieces) (omega (arith, many, length-map pieces form)) in
      let size : pieces_end o s ≡ end = left.size ∙ ap (λ (l : List (ℕ × List ℕ)). last_end end (stacked end l)) none in
      no_string_is end (left.over ∙ ap (λ (l : List (ℕ × List ℕ)). first_over (stacked end l) offset) none) (omega arith)

  -- ---- The walk over the pieces

  module _ (end p align len : ℕ) (there : p < piece_count o s) (aligned : align ≡ (piece_at o s p).align) (sized : len ≡ length (bytes_in o s p)) (left : IsLeft end p) where
    standing : (stand : Stand) → Stands end align len offset stand → Stands end (piece_at o s p).align (length (bytes_in o s p)) offset stand
    standing stand is = subst (λ (n : ℕ). Stands end (piece_at o s p).align n offset stand) sized (subst (λ (n : ℕ). Stands end n len offset stand) aligned is)

    pub stands_over : (start : ℕ) → Stands end align len offset (Covers start) → IsOver o s offset p start
    stands_over start is =
        let stands = standing (Covers start) is in
        let at = rounded_up end (piece_at o s p).align in
        let low : at ≤ offset = leb-true at offset (left_of (nat_le at offset) (nat_lt offset (at + length (bytes_in o s p))) stands.0) in
        let high : offset < at + length (bytes_in o s p) = ltb-true offset (at + length (bytes_in o s p)) (right_of (nat_le at offset) (nat_lt offset (at + length (bytes_in o s p))) stands.0) in
        record {
          there = there;
          at = at;
          over = left_covers end p there left stands.0;
          distance = sym stands.1;
          within = omega (arith, low, high, stands.1);
        }

    pub stands_next : (next : ℕ) → Stands end align len offset (Ends next) → IsLeft next (p + 1)
    stands_next next is =
        let stands = standing (Ends next) is in
        let at = rounded_up end (piece_at o s p).align in
        let past =
        and_right (nat_le at offset) (nat_lt offset (at + length (bytes_in o s p)))
        (le-ltb offset (at + length (bytes_in o s p)) (omega (arith, stands.0, stands.1))) in
        subst (λ (n : ℕ). IsLeft n (p + 1)) (sym stands.0) (left_next end p there left past)

    pub stands_before : (size : ℕ) → Stands end align len offset Before
        → size ≡ min (pieces_end o s) (2 ^ 64 - 1)
        → no_string o s offset ≡ Some (NoString offset size)
    stands_before size is told = left_before end p size there (standing Before is) left told
