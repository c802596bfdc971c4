-- Zeros that are not put: behind the end of what a device held before it was lengthened they stand
-- there already.
use Rattle.std.proofs.Common.{◌≡◌, ◌⊎◌, ⊎_elim, ℕ, ◌+◌, ◌-◌, ◌<◌, ◌≤◌, min, max, Bool, true, false, ◌||◌, List, ◌∷◌, length, replicate, get_or, refl, sym, ◌∙◌, arith}
use Rattle.std.specs.Prelude.{◌==◌, if◌then◌else◌}
use Rattle.std.proofs.lemmas.Bool.{cases_lt, eqb-true}
use Rattle.std.proofs.lemmas.List.{length-replicate, get_or-replicate, get_or_past}
use Rattle.elf_update_to.specs.elf_object.Blocks.{Block, block_covers, is_covered}
use Rattle.elf_update_to.proofs.law_object.StandLaws.{covered_from}
use Rattle.elf_update_to.specs.law_object.Writing.Lines.{StandsAt, HoldsBlock, IsUnderWay}
use Rattle.elf_update_to.specs.law_object.Writing.Plan.{fill_block}
use Rattle.elf_update_to.proofs.law_object.writing.Bools.{neither}
use Rattle.elf_update_to.proofs.law_object.writing.LineLaws.{covers_from}
use Rattle.elf_update_to.proofs.law_object.writing.HeldLaws.{stands_from, stands_within, stands_byte, held_byte}
use Rattle.elf_update_in_place.specs.Writes.Walks.{put_end}

-- ---- A device on the way

neither_is : (x y : Bool) → x ≡ false → y ≡ false → (x || y) ≡ false
neither_is true y a b = cc
neither_is false y a b = b

-- a block is left by less of it, where the others of its bytes are zeros behind the old bytes
pub under_way_front : (old new held : List ℕ) (size : ℕ) (blocks : List Block) (a b : Block)
    (left : List Block) → IsUnderWay old new held size blocks (b ∷ left) → HoldsBlock new b
    → ((k : ℕ) → block_covers b k ≡ true → block_covers a k ≡ false
    → (length old ≤ k) × (get_or b.bytes (k - b.at) 0 ≡ 0))
    → IsUnderWay old new held size blocks (a ∷ left)
unfolding is_covered
under_way_front old new held size blocks a b left is stands zeros = record {
  len = is.len;
  each = is.each;
  done = λ k over none.
      let both = neither (block_covers a k) (is_covered left k) none in
      by_test k over both.0 both.1 (block_covers b k) refl;
}
  where
    by_test : (k : ℕ) → is_covered blocks k ≡ true → block_covers a k ≡ false
        → is_covered left k ≡ false → (c : Bool) → block_covers b k ≡ c
        → get_or held k 0 ≡ get_or new k 0
    by_test k over out none true e =
        let past = zeros k e out in
        let now : get_or new k 0 ≡ 0 = sym (held_byte new b k stands e) ∙ past.1 in
        let was : get_or old k 0 ≡ 0 = get_or_past old k 0 past.0 in
        ⊎_elim
        (λ there. ⊎_elim (λ same. same ∙ was ∙ sym now) (λ other. other.1) (is.each k there))
        (λ beyond. get_or_past held k 0 beyond ∙ sym now)
        (cases_lt k (length held))
    by_test k over out none false e =
        is.done k over (neither_is (block_covers b k) (is_covered left k) e none)

-- ---- The fill of a gap

pub put_end_most : (fill old_end end : ℕ) → put_end fill old_end end ≤ end
put_end_most fill old_end end = by (fill == 0)
  where
    by : (c : Bool) → (if c then min end old_end else end) ≤ end
    by true = omega arith
    by false = omega arith

-- fewer bytes of one value stand where more do
fewer_stand : (bytes : List ℕ) (at n m byte : ℕ) → n ≤ m → StandsAt bytes at (replicate m byte)
    → StandsAt bytes at (replicate n byte)
fewer_stand bytes at n m byte most stands =
    let few = length-replicate n byte in
    let more = length-replicate m byte in
    stands_from bytes at (replicate n byte)
    (λ some.
    let last = stands_within bytes at (replicate m byte) (n - 1) stands
    (omega (arith, few, more, most, some)) in
    omega (arith, few, last, some))
    (λ j below.
    sym (stands_byte bytes at (replicate m byte) j stands (omega (arith, few, more, most, below)))
    ∙ get_or-replicate m j byte 0 (omega (arith, few, most, below))
    ∙ sym (get_or-replicate n j byte 0 (omega (arith, few, below))))

module _ (kept fill old_end from end : ℕ) where
  -- so much of it as is put
  abbrev pub put_front : Block
  put_front = fill_block kept fill from (put_end fill old_end end)

  pub front_stands : (bytes : List ℕ) → HoldsBlock bytes (fill_block kept fill from end)
      → HoldsBlock bytes put_front
  front_stands bytes stands =
      let most = put_end_most fill old_end end in
      fewer_stand bytes (max from kept) (put_end fill old_end end - max from kept)
      (end - max from kept) fill (omega (arith, most)) stands

  pub front_fewer : length (replicate (put_end fill old_end end - max from kept) fill)
      ≤ length (replicate (end - max from kept) fill)
  front_fewer =
      let most = put_end_most fill old_end end in
      let few = length-replicate (put_end fill old_end end - max from kept) fill in
      let more = length-replicate (end - max from kept) fill in
      omega (arith, most, few, more)

  -- the others of its bytes are zeros behind the old end
  pub front_past : (k : ℕ) → block_covers (fill_block kept fill from end) k ≡ true
      → block_covers put_front k ≡ false
      → (old_end ≤ k) × (get_or (replicate (end - max from kept) fill) (k - max from kept) 0 ≡ 0)
  front_past k over out = by (fill == 0) refl out
    where
      by : (c : Bool) → (fill == 0) ≡ c
          → block_covers (fill_block kept fill from (if c then min end old_end else end)) k ≡ false
          → (old_end ≤ k)
          × (get_or (replicate (end - max from kept) fill) (k - max from kept) 0 ≡ 0)
      by true is_zero short =
          let is = covered_from (fill_block kept fill from end) k over in
          let start = is.from in
          let below = is.below in
          let count = length-replicate (end - max from kept) fill in
          let some = length-replicate (min end old_end - max from kept) fill in (
            ⊎_elim
                (λ inside.
                let clash : true ≡ false =
                sym (covers_from (fill_block kept fill from (min end old_end)) k start
                (omega (arith, start, inside, some))) ∙ short in cc)
                (λ past. omega (arith, past, below, count, start))
                (cases_lt k (min end old_end)),
            get_or-replicate (end - max from kept) (k - max from kept) fill 0
                (omega (arith, below, count, start)) ∙ eqb-true fill 0 is_zero,
          )
      by false other short = let clash : true ≡ false = sym over ∙ short in cc
