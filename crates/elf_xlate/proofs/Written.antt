-- Bytes with others written over them.
use Rattle.std.proofs.Common.{◌≡◌, ℕ, suc, ◌+◌, ◌-◌, ◌<◌, ◌≤◌, List, ◌∷◌, ◌++◌, length, take, drop, get_or, set, ap, ◌∙◌, arith, rules}
use Rattle.std.proofs.lemmas.List.{same_lists, places, set_split}
use Rattle.elf_types.specs.declared.records.Order.{Order}
use Rattle.elf_xlate.specs.Numbers.{octets}
use Rattle.elf_xlate.proofs.Digits.{length_octets, octets_one}
use borrow.Rule.Slice.PartMut.{put_mid}
use Rattle.elf_xlate.specs.Fields.{written}

pub length_written : (place : ℕ) (new bytes : List ℕ) → place + length new ≤ length bytes → length (written place new bytes) ≡ length bytes
unfolding written
length_written place new bytes h = search (rules, places)

-- what was written
pub written_same : (place : ℕ) (new bytes : List ℕ) → place + length new ≤ length bytes → take (length new) (drop place (written place new bytes)) ≡ new
unfolding written
written_same place new bytes h = same_lists _ _ (search (rules, places)) (λ k d lt. grind (arith, places))

-- what stands before it
pub written_before : (place : ℕ) (new bytes : List ℕ) (p w : ℕ) → place + length new ≤ length bytes → p + w ≤ place → take w (drop p (written place new bytes)) ≡ take w (drop p bytes)
unfolding written
written_before place new bytes p w h before = same_lists _ _ (search (rules, places)) (λ k d lt. grind (arith, places))

-- what stands after it
pub written_after : (place : ℕ) (new bytes : List ℕ) (p w : ℕ) → place + length new ≤ length bytes → place + length new ≤ p → take w (drop p (written place new bytes)) ≡ take w (drop p bytes)
unfolding written
written_after place new bytes p w h after = same_lists _ _ (search (rules, places)) (λ k d lt. grind (arith, places))

-- what stood there
pub written_again : (place w : ℕ) (bytes : List ℕ) → place + w ≤ length bytes → written place (take w (drop place bytes)) bytes ≡ bytes
unfolding written
written_again place w bytes h = same_lists _ _ (search (rules, places)) (λ k d lt. grind (arith, places))

-- each byte
pub written_inside : (place : ℕ) (new bytes : List ℕ) (k : ℕ) → place + length new ≤ length bytes → place ≤ k → k < place + length new → get_or (written place new bytes) k 0 ≡ get_or new (k - place) 0
unfolding written
written_inside place new bytes k h low high = grind (arith, places)

pub written_outside_low : (place : ℕ) (new bytes : List ℕ) (k : ℕ) → place + length new ≤ length bytes → k < place → get_or (written place new bytes) k 0 ≡ get_or bytes k 0
unfolding written
written_outside_low place new bytes k h low = grind (arith, places)

pub written_outside_high : (place : ℕ) (new bytes : List ℕ) (k : ℕ) → place + length new ≤ length bytes → place + length new ≤ k → get_or (written place new bytes) k 0 ≡ get_or bytes k 0
unfolding written
written_outside_high place new bytes k h high = grind (arith, places)

-- what a loan of the bytes from a place on leaves, where its front was written
pub lent : (order : Order) (place width n : ℕ) (bytes front left : List ℕ) → place + width ≤ length bytes → front ≡ octets order width n
    → left ≡ front ++ drop width (take (length bytes - place) (drop place bytes))
    → put_mid place (length bytes - place) bytes left ≡ written place (octets order width n) bytes
unfolding written
lent order place width n bytes front left h e left_is =
    let len : length (octets order width n) ≡ width = length_octets order width n in
    let whole : left ≡ octets order width n ++ drop width (take (length bytes - place) (drop place bytes)) = rw e at left_is in
    same_lists _ _ (search (rules, places)) (λ k d lt. grind (arith, places))

-- one byte
pub one_set : (order : Order) (bytes : List ℕ) (place b : ℕ) → place + 1 ≤ length bytes → b < 256 → set bytes place b ≡ written place (octets order 1 b) bytes
unfolding written
one_set order bytes place b h small =
    let next : suc place ≡ place + 1 = omega arith in
    rw (octets_one order b small) (set_split bytes place b (omega arith) ∙ ap (λ (p : ℕ). take place bytes ++ b ∷ drop p bytes) next)
