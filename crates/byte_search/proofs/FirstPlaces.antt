-- The first place whose byte passes a test, as a search for it answers.
use Rattle.std.proofs.Common.{◌≡◌, ◌<◌, ℕ, Bool, true, false, cond, ltb, List, length, get_or, position, Option, Some, None, sym, ap, ◌∙◌, le-ltb, lt-ltb, arith}
use Rattle.std.specs.List.{position_or_len}
use Rattle.std.proofs.lemmas.Bool.{false_from_ne_true}
use Rattle.std.proofs.lemmas.List.Sums.{position_or_len_is}
use Rattle.memchr.specs.Find.{IsFirstByte}

module _ (test : ℕ → Bool) (bytes : List ℕ) where
  -- the first place where it is known, and known whether it is below the length
  answer : (place : ℕ) (within : Bool) → position_or_len test bytes ≡ place
      → ltb place (length bytes) ≡ within
      → position test bytes ≡ cond within (Some place) None
  answer place within at compared =
      ap (λ (n : ℕ). cond (ltb n (length bytes)) (Some n) None) at
      ∙ ap (λ (b : Bool). cond b (Some place) None) compared

  -- what a search answers is the first place, or that there is none
  pub is_first_place : (found : Option ℕ) → IsFirstByte test bytes found
      → found ≡ position test bytes
  is_first_place None nowhere =
      let fails = λ (k : ℕ) (before : k < length bytes).
      false_from_ne_true (test (get_or bytes k 0)) (nowhere k (omega arith) before) in
      let at = position_or_len_is test bytes (length bytes) 0 (omega arith) fails
      (λ past. absurd (omega (arith, past))) in
      sym (answer (length bytes) false at (le-ltb (length bytes) (length bytes) (omega arith)))
  is_first_place (Some place) first =
      let fails = λ (k : ℕ) (before : k < place).
      false_from_ne_true (test (get_or bytes k 0)) (first.0.before k (omega arith) before) in
      let at = position_or_len_is test bytes place 0 (omega (arith, first.0.high)) fails
      (λ _. first.1) in
      sym (answer place true at (lt-ltb place (length bytes) first.0.high))
