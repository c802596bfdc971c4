-- A home is disturbed where it meets something that is written.
use Rattle.std.proofs.Common.{◌≡◌, ℕ, zero, suc, ◌+◌, ◌-◌, ◌<◌, ◌≤◌, max, Bool, true, false, not, ◌&&◌, ◌||◌, List, [], ◌∷◌, length, refl, sym, ap, ◌∙◌, arith, ⊎_elim, ◌⊎◌, inl, inr}
use Rattle.std.specs.Prelude.{nat_lt, cond}
use Rattle.std.specs.List.{range_with_len, list_any, filter}
use Rattle.std.proofs.lemmas.Bool.{cases_lt, lt-ltb, le-ltb, ltb-true}
use Rattle.std.proofs.lemmas.List.{length-replicate}
use Rattle.std.proofs.lemmas.List.Elements.{filter-append}
use Rattle.std.proofs.lemmas.List.Folds.{list_any-append}
use Rattle.elf_object.specs.Blocks.{Block, block_end, extents_meet}
use Rattle.elf_object.specs.Object.{Object}
use Rattle.elf_object.specs.Image.{kept_base, image_length}
use Rattle.elf_object.specs.Changed.{changed_blocks, is_disturbed}
use Rattle.law_object.proofs.writing.Bools.{both_true}
use Rattle.law_object.specs.Writing.Lines.{AreInLine, gap_places}
use Rattle.law_object.specs.Writing.Plan.{plan, fill_block, fill_between, fill_blocks, written_blocks, meets_some}
use Rattle.law_object.specs.Writing.Writing.{DisturbedByWrites}
use Rattle.law_object.proofs.writing.PlanLaws.{plan_line, fill_places_are}

-- ---- Extents that meet

pub record IsMeeting (a m b n : ℕ) : Type 0 where
  pub some : 0 < m
  pub other : 0 < n
  pub before : a < b + n
  pub after : b < a + m

pub meeting_from : (a m b n : ℕ) → extents_meet a m b n ≡ true → IsMeeting a m b n
unfolding extents_meet
meeting_from a m b n h =
    let three = both_true (nat_lt 0 m && nat_lt 0 n && nat_lt a (b + n)) (nat_lt b (a + m)) h in
    let two = both_true (nat_lt 0 m && nat_lt 0 n) (nat_lt a (b + n)) three.0 in
    let one = both_true (nat_lt 0 m) (nat_lt 0 n) two.0 in
    record { some = ltb-true 0 m one.0; other = ltb-true 0 n one.1; before = ltb-true a (b + n) two.1; after = ltb-true b (a + m) three.1 }

pub meeting_to : (a m b n : ℕ) → IsMeeting a m b n → extents_meet a m b n ≡ true
unfolding extents_meet
meeting_to a m b n is =
    rw (lt-ltb 0 m is.some, lt-ltb 0 n is.other, lt-ltb a (b + n) is.before, lt-ltb b (a + m) is.after) refl

pub same_test : (x y : Bool) → (x ≡ true → y ≡ true) → (y ≡ true → x ≡ true) → x ≡ y
same_test true y there back = sym (there refl)
same_test false true there back = back refl
same_test false false there back = refl

pub either_true : (x y : Bool) → (x || y) ≡ true → (x ≡ true) ⊎ (y ≡ true)
either_true true y h = inl refl
either_true false y h = inr h

pub left_true : (x y : Bool) → x ≡ true → (x || y) ≡ true
left_true true y h = refl
left_true false y h = cc

pub right_true : (x y : Bool) → y ≡ true → (x || y) ≡ true
right_true true y h = refl
right_true false y h = h

-- an extent meets another where it meets its first place or the rest
first_or_rest : (a m x n : ℕ) → (extents_meet a m x 1 || extents_meet a m (x + 1) n) ≡ extents_meet a m x (suc n)
first_or_rest a m x n = same_test (extents_meet a m x 1 || extents_meet a m (x + 1) n) (extents_meet a m x (suc n))
    (λ h. ⊎_elim
    (λ e. let is = meeting_from a m x 1 e in let some = is.some in let before = is.before in let after = is.after in
    meeting_to a m x (suc n) (record { some = some; other = omega arith; before = omega arith; after = after }))
    (λ e. let is = meeting_from a m (x + 1) n e in let some = is.some in let before = is.before in let after = is.after in
    meeting_to a m x (suc n) (record { some = some; other = omega arith; before = omega arith; after = omega arith }))
    (either_true (extents_meet a m x 1) (extents_meet a m (x + 1) n) h))
    (λ h.
    let is = meeting_from a m x (suc n) h in
    let some = is.some in
    let before = is.before in
    let after = is.after in
    ⊎_elim
    (λ first. left_true (extents_meet a m x 1) (extents_meet a m (x + 1) n) (meeting_to a m x 1 (record { some = some; other = omega arith; before = first; after = after })))
    (λ rest. right_true (extents_meet a m x 1) (extents_meet a m (x + 1) n) (meeting_to a m (x + 1) n (record { some = some; other = omega arith; before = omega arith; after = omega arith })))
    (cases_lt a (x + 1)))

empty_meets : (a m b n : ℕ) → n ≡ 0 → extents_meet a m b n ≡ false
empty_meets a m b n none = same_test (extents_meet a m b n) false (λ h. let is = meeting_from a m b n h in let other = is.other in absurd (omega arith)) (λ h. cc)

-- ---- The places of a gap that are filled

range_meets : (a m kept x n : ℕ) → list_any (λ k. extents_meet a m k 1) (filter (λ k. not (nat_lt k kept)) (range_with_len x n)) ≡ extents_meet a m (max x kept) (x + n - max x kept)
range_meets a m kept x zero = sym (empty_meets a m (max x kept) (x + 0 - max x kept) (omega arith))
range_meets a m kept x (suc n) =
    let rest = range_meets a m kept (x + 1) n in
    ⊎_elim
    (λ below.
    let place : max (x + 1) kept ≡ max x kept = omega arith in
    let size : x + 1 + n - max (x + 1) kept ≡ x + suc n - max x kept = omega arith in
    ap (λ (b : Bool). list_any (λ k. extents_meet a m k 1) (cond (not b) (x ∷ filter (λ k. not (nat_lt k kept)) (range_with_len (x + 1) n)) (filter (λ k. not (nat_lt k kept)) (range_with_len (x + 1) n)))) (lt-ltb x kept below)
    ∙ rest
    ∙ ap (λ (b : ℕ). extents_meet a m b (x + 1 + n - max (x + 1) kept)) place
    ∙ ap (extents_meet a m (max x kept)) size)
    (λ past.
    let place : max (x + 1) kept ≡ x + 1 = omega arith in
    let size : x + 1 + n - max (x + 1) kept ≡ n = omega arith in
    let here : max x kept ≡ x = omega arith in
    let all : x + suc n - max x kept ≡ suc n = omega arith in
    ap (λ (b : Bool). list_any (λ k. extents_meet a m k 1) (cond (not b) (x ∷ filter (λ k. not (nat_lt k kept)) (range_with_len (x + 1) n)) (filter (λ k. not (nat_lt k kept)) (range_with_len (x + 1) n)))) (le-ltb x kept past)
    ∙ ap (λ (b : Bool). extents_meet a m x 1 || b) (rest ∙ ap (λ (b : ℕ). extents_meet a m b (x + 1 + n - max (x + 1) kept)) place ∙ ap (extents_meet a m (x + 1)) size)
    ∙ first_or_rest a m x n
    ∙ sym (ap (λ (b : ℕ). extents_meet a m b (x + suc n - max x kept)) here ∙ ap (extents_meet a m x) all))
    (cases_lt x kept)

-- the fill of a gap
gap_meets : (a m kept fill from end : ℕ) → from ≤ end → list_any (λ k. extents_meet a m k 1) (filter (λ k. not (nat_lt k kept)) (range_with_len from (end - from))) ≡ extents_meet a m (fill_block kept fill from end).at (length (fill_block kept fill from end).bytes)
gap_meets a m kept fill from end within =
    let count = length-replicate (end - max from kept) fill in
    let size : from + (end - from) - max from kept ≡ end - max from kept = omega arith in
    range_meets a m kept from (end - from) ∙ ap (extents_meet a m (max from kept)) (size ∙ sym count)

fills_meet : (a m kept fill end from : ℕ) (bs : List Block) → AreInLine end from bs → list_any (λ k. extents_meet a m k 1) (filter (λ k. not (nat_lt k kept)) (gap_places end from bs)) ≡ list_any (λ b. extents_meet a m b.at (length b.bytes)) (fill_between kept fill end from bs)
fills_meet a m kept fill end from [] line = gap_meets a m kept fill from end line ∙ or_false _
  where
    or_false : (b : Bool) → b ≡ (b || false)
    or_false true = refl
    or_false false = refl
fills_meet a m kept fill end from (b ∷ bs) line =
    ap (list_any (λ k. extents_meet a m k 1)) (filter-append (λ k. not (nat_lt k kept)) (range_with_len from (b.at - from)) (gap_places end (block_end b) bs))
    ∙ list_any-append (λ k. extents_meet a m k 1) (filter (λ k. not (nat_lt k kept)) (range_with_len from (b.at - from))) (filter (λ k. not (nat_lt k kept)) (gap_places end (block_end b) bs))
    ∙ ap (λ (t : Bool). t || list_any (λ k. extents_meet a m k 1) (filter (λ k. not (nat_lt k kept)) (gap_places end (block_end b) bs))) (gap_meets a m kept fill from b.at line.0)
    ∙ ap (λ (t : Bool). extents_meet a m (max from kept) (length (fill_block kept fill from b.at).bytes) || t) (fills_meet a m kept fill end (block_end b) bs line.1)

pub disturbed_by_writes : (o : Object) → DisturbedByWrites o
unfolding is_disturbed meets_some written_blocks fill_blocks
disturbed_by_writes o home ready =
    let fills = ap (list_any (λ k. extents_meet home.at home.len k 1)) (fill_places_are o ready) ∙ fills_meet home.at home.len (kept_base o) o.fill (image_length o) 0 (plan o) (plan_line o ready) in
    let all = list_any-append (λ b. extents_meet home.at home.len b.at (length b.bytes)) (changed_blocks o) (fill_between (kept_base o) o.fill (image_length o) 0 (plan o)) in
    ap (λ (t : Bool). list_any (λ b. extents_meet home.at home.len b.at (length b.bytes)) (changed_blocks o) || t || (nat_lt 0 home.len && nat_lt (image_length o) (home.at + home.len))) fills
    ∙ ap (λ (t : Bool). t || (nat_lt 0 home.len && nat_lt (image_length o) (home.at + home.len))) (sym all)
