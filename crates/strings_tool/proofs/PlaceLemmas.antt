-- A number behind spaces, right in the seven places of a column, and a space.
use Rattle.std.proofs.Common.{◌≡◌, ◌-◌, ◌<◌, ◌≤◌, ◌++◌, ℕ, List, length, take, drop, sym, ap, ◌∙◌, arith}
use Rattle.std.proofs.Math.ListN.{replicate, length-replicate}
use Rattle.std.proofs.lemmas.List.{take-replicate, drop-replicate, length-drop, drop-append-le, take-append-drop, take_all}

-- the bytes of a buffer from a place on
pub tail_is : (m : ℕ) (bytes : List ℕ) → take (length bytes - m) (drop m bytes) ≡ drop m bytes
tail_is m bytes =
    take_all (length bytes - m) (drop m bytes) (omega (arith, length-drop m bytes))

module _ (start : ℕ) (blank head new text rest space : List ℕ) (inside : start ≤ 43)
    (are : blank ≡ replicate 44 32) (is_head : head ≡ take 43 blank) (len : length new ≡ 43)
    (front : take start new ≡ take start head) (behind : drop start new ≡ text) (last : rest ≡ space) where
  room : length text ≡ 43 - start
  room = sym (ap length behind) ∙ length-drop start new ∙ ap (λ (n : ℕ). n - start) len

  copied : take start new ≡ replicate start 32
  copied =
      front ∙ ap (take start) (is_head ∙ ap (take 43) are ∙ take-replicate 43 44 32 (omega arith))
      ∙ take-replicate start 43 32 inside

  whole : new ≡ replicate start 32 ++ text
  whole =
      sym (take-append-drop start new) ∙ ap (λ (l : List ℕ). l ++ drop start new) copied
      ∙ ap (λ (l : List ℕ). replicate start 32 ++ l) behind

  -- a number that has a column's places at most
  short : 36 ≤ start → drop 36 new ≡ replicate (7 - length text) 32 ++ text
  short few =
      let within : 36 ≤ length (replicate start 32) = omega (arith, few, length-replicate {A = ℕ} start 32) in
      let same : start - 36 ≡ 7 - length text = omega (arith, room, few, inside) in
      ap (drop 36) whole ∙ drop-append-le 36 (replicate start 32) text within
      ∙ ap (λ (l : List ℕ). l ++ text) (drop-replicate 36 start 32)
      ∙ ap (λ (n : ℕ). replicate n 32 ++ text) same

  long : start < 36 → drop start new ≡ replicate (7 - length text) 32 ++ text
  long many =
      let none : 7 - length text ≡ 0 = omega (arith, room, many, inside) in
      behind ∙ sym (ap (λ (n : ℕ). replicate n 32 ++ text) none)

  pub in_column : 36 ≤ start → drop 36 (new ++ rest) ≡ (replicate (7 - length text) 32 ++ text) ++ space
  in_column few =
      drop-append-le 36 new rest (omega (arith, len))
      ∙ ap (λ (l : List ℕ). l ++ rest) (short few)
      ∙ ap (λ (l : List ℕ). (replicate (7 - length text) 32 ++ text) ++ l) last

  pub past_column : start < 36 → drop start (new ++ rest) ≡ (replicate (7 - length text) 32 ++ text) ++ space
  past_column many =
      drop-append-le start new rest (omega (arith, len, inside))
      ∙ ap (λ (l : List ℕ). l ++ rest) (long many)
      ∙ ap (λ (l : List ℕ). (replicate (7 - length text) 32 ++ text) ++ l) last
