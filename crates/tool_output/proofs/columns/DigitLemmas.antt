-- The digits of a number in a radix, written from the last to the first.
use Rattle.std.proofs.Common.{◌≡◌, ◌+◌, ◌-◌, ◌*◌, ◌/◌, ◌%◌, ◌^◌, ◌<◌, ◌≤◌, ◌==◌, ℕ, zero, suc, false, true, List, [], ◌∷◌, length, take, drop, set, refl, sym, ap, subst, ◌∙◌, arith}
use Rattle.std.specs.Fmt.{digits, digits_onto, digit_glyph}
use Rattle.std.proofs.lemmas.Bool.{ne_eqb, eq-eqb}
use Rattle.std.proofs.lemmas.List.{drop-set, take-set, take-take}
use Rattle.std.proofs.Math.ListN.{length-set}
use Rattle.std.proofs.Math.Seq.{drop-length}
use Rattle.std.proofs.Math.Nat.{pow-suc, pow-zero, one-mul, pow-le-pow_left, div-lt_iff_lt-mul, div-eq_of_lt, div-lt_self, mod-eq_of_lt}

-- How far the digits of n are written: those from `at` on are, and those of `left` are still to come.
-- What stood before them in the buffer stands there.
pub record DigitFilling (base n left at : ℕ) (old buffer : List ℕ) : Type 0 where
  pub some : 0 < at
  pub room : at ≤ 43
  pub len : length buffer ≡ 43
  pub small : left < base ^ at
  pub same : digits_onto (at + 21) base false left (drop at buffer) ≡ digits base false n
  pub front : take at buffer ≡ take at old

-- a byte is written at the last place that was free
pub front_before_digit : (at glyph : ℕ) (old buffer : List ℕ) → take at buffer ≡ take at old
    → take (at - 1) (set buffer (at - 1) glyph) ≡ take (at - 1) old
front_before_digit at glyph old buffer front =
    let le : at - 1 ≤ at = omega arith in
    take-set buffer (at - 1) glyph ∙ sym (take-take (at - 1) at buffer le)
    ∙ ap (take (at - 1)) front ∙ take-take (at - 1) at old le

all_dropped : (xs : List ℕ) (n : ℕ) → length xs ≡ n → drop n xs ≡ []
all_dropped xs n e = subst (λ (k : ℕ). drop k xs ≡ []) e (drop-length xs)

module _ (base : ℕ) (least : 8 ≤ base) where
  positive : 0 < base
  positive = omega (arith, least)

  onto_more : (k m n : ℕ) (acc : List ℕ) → m ≡ suc k → (n / base == 0) ≡ false
      → digits_onto m base false n acc ≡ digits_onto k base false (n / base) (digit_glyph false (n % base) ∷ acc)
  onto_more k m n acc e t = rw e (rw t refl)

  onto_last : (k m n : ℕ) (acc : List ℕ) → m ≡ suc k → (n / base == 0) ≡ true → digits_onto m base false n acc ≡ digit_glyph false (n % base) ∷ acc
  onto_last k m n acc e t = rw e (rw t refl)

  pub Filling-begin : (n : ℕ) (buffer : List ℕ) → n < 2 ^ 128 → length buffer ≡ 43 → DigitFilling base n n 43 buffer buffer
  unfolding digits
  Filling-begin n buffer below len =
      let power : 2 ^ 129 ≤ base ^ 43 = pow-le-pow_left {n = 8} {m = base} least 43 in
      record {
        some = omega arith;
        room = omega arith;
        len = len;
        small = omega (arith, power, below);
        same = subst (λ (l : List ℕ). digits_onto 64 base false n l ≡ digits base false n) (sym (all_dropped buffer 43 len)) (refl {a = digits base false n});
        front = refl;
      }

  -- one place is not enough for a number that is not below the base
  places : (left at : ℕ) → left < base ^ at → base ≤ left → 0 < at → 1 < at
  places left at small big some = by_place at small some
    where
      pow_one : base ^ 1 ≡ base
      pow_one = pow-suc base 0 ∙ ap (λ (p : ℕ). p * base) (pow-zero base) ∙ one-mul base

      by_place : (at : ℕ) → left < base ^ at → 0 < at → 1 < at
      by_place zero h s = absurd (omega (arith, s))
      by_place (suc zero) h s = absurd (omega (arith, pow_one, h, big))
      by_place (suc (suc k)) h s = omega arith

  quotient_some : (left : ℕ) → base ≤ left → left / base ≡ 0 → ⊥
  quotient_some left big none =
      let small : left < 1 * base = (div-lt_iff_lt-mul {k = base} {x = left} {y = 1} positive).0 (omega (arith, none)) in
      omega (arith, small, big)

  pub falls : (left : ℕ) → base ≤ left → left / base < left
  falls left big = div-lt_self {n = left} {k = base} (omega (arith, least)) (omega (arith, least, big))

  -- a digit before those that are written
  next_digit : (left k glyph : ℕ) (buffer : List ℕ) → k < length buffer → base ≤ left → glyph ≡ digit_glyph false (left % base)
      → digits_onto (k + 21) base false (left / base) (drop k (set buffer k glyph)) ≡ digits_onto (k + 1 + 21) base false left (drop (k + 1) buffer)
  next_digit left k glyph buffer inside big is =
      ap (digits_onto (k + 21) base false (left / base)) (drop-set buffer k glyph inside ∙ ap (λ (g : ℕ). g ∷ drop (k + 1) buffer) is)
      ∙ sym (onto_more (k + 21) (k + 1 + 21) left (drop (k + 1) buffer) (omega arith) (ne_eqb (left / base) 0 (quotient_some left big)))

  pub Filling-next : (n left at glyph : ℕ) (old buffer : List ℕ) → DigitFilling base n left at old buffer → base ≤ left → glyph ≡ digit_glyph false (left % base)
      → DigitFilling base n (left / base) (at - 1) old (set buffer (at - 1) glyph)
  Filling-next n left at glyph old buffer f big is =
      let more : 1 < at = places left at f.small big f.some in
      let back : at - 1 + 1 ≡ at = omega (arith, more) in
      let power : base ^ at ≡ base ^ (at - 1) * base = ap (λ (k : ℕ). base ^ k) (sym back ∙ (let e : at - 1 + 1 ≡ suc (at - 1) = omega arith in e)) ∙ pow-suc base (at - 1) in
      record {
        some = omega (arith, more);
        room = omega (arith, f.room);
        len = rw length-set f.len;
        small = (div-lt_iff_lt-mul {k = base} {x = left} {y = base ^ (at - 1)} positive).1 (subst (λ (p : ℕ). left < p) power f.small);
        same = next_digit left (at - 1) glyph buffer (omega (arith, f.room, f.len, more)) big is
            ∙ subst (λ (k : ℕ). digits_onto (k + 21) base false left (drop k buffer) ≡ digits base false n) (sym back) f.same;
        front = front_before_digit at glyph old buffer f.front;
      }

  pub Filling-end : (n left at glyph : ℕ) (old buffer : List ℕ) → DigitFilling base n left at old buffer → left < base → glyph ≡ digit_glyph false left
      → drop (at - 1) (set buffer (at - 1) glyph) ≡ digits base false n
  Filling-end n left at glyph old buffer f below is =
      let back : at - 1 + 1 ≡ at = omega (arith, f.some) in
      drop-set buffer (at - 1) glyph (omega (arith, f.room, f.len, f.some))
      ∙ ap (λ (g : ℕ). g ∷ drop (at - 1 + 1) buffer) (is ∙ ap (digit_glyph false) (sym (mod-eq_of_lt below)))
      ∙ sym (onto_last (at - 1 + 21) (at - 1 + 1 + 21) left (drop (at - 1 + 1) buffer) (omega arith) (eq-eqb (left / base) 0 (div-eq_of_lt below)))
      ∙ subst (λ (k : ℕ). digits_onto (k + 21) base false left (drop k buffer) ≡ digits base false n) (sym back) f.same
