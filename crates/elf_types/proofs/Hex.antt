-- The digits of a number, written from the last to the first.
use Rattle.std.proofs.Common.{◌≡◌, ◌+◌, ◌-◌, ◌/◌, ◌%◌, ◌^◌, ◌<◌, ◌≤◌, ◌==◌, ℕ, zero, suc, false, true, List, [], ◌∷◌, length, drop, set, refl, sym, ap, subst, ◌∙◌, arith, lit<}
use Rattle.std.specs.Fmt.{digits, digits_onto, digit_glyph}
use Rattle.std.proofs.lemmas.Bool.{ne_eqb, eq-eqb}
use Rattle.std.proofs.lemmas.List.{drop-set, drop-set-lt}
use Rattle.std.proofs.Math.ListN.{length-set}
use Rattle.std.proofs.Math.Seq.{drop-length}
use Rattle.std.proofs.Math.Nat.{pow-suc, div-lt_iff_lt-mul}

-- how far the digits of n are written: those of `left` are still to come, and its last one stands at `at`
pub record Filling (n left at : ℕ) (buffer : List ℕ) : Type 0 where
  pub room : at < 16
  pub len : length buffer ≡ 16
  pub small : left < 16 ^ (at + 1)
  pub first : drop at buffer ≡ digit_glyph false (left % 16) ∷ drop (at + 1) buffer
  pub same : digits_onto (at + 49) 16 false left (drop (at + 1) buffer) ≡ digits 16 false n

onto_more : (k m n : ℕ) (acc : List ℕ) → m ≡ suc k → (n / 16 == 0) ≡ false → digits_onto m 16 false n acc ≡ digits_onto k 16 false (n / 16) (digit_glyph false (n % 16) ∷ acc)
onto_more k m n acc e t = rw e (rw t refl)

onto_last : (k m n : ℕ) (acc : List ℕ) → m ≡ suc k → (n / 16 == 0) ≡ true → digits_onto m 16 false n acc ≡ digit_glyph false (n % 16) ∷ acc
onto_last k m n acc e t = rw e (rw t refl)

all_dropped : (xs : List ℕ) (n : ℕ) → length xs ≡ n → drop n xs ≡ []
all_dropped xs n e = subst (λ (k : ℕ). drop k xs ≡ []) e (drop-length xs)

pub Filling-begin : (n glyph : ℕ) (buffer : List ℕ) → n < 2 ^ 64 → length buffer ≡ 16 → glyph ≡ digit_glyph false (n % 16) → Filling n n 15 (set buffer 15 glyph)
unfolding digits
Filling-begin n glyph buffer small len is =
    let at_end : drop 16 (set buffer 15 glyph) ≡ [] = all_dropped (set buffer 15 glyph) 16 (rw length-set len) in
    record {
      room = lit< tt;
      len = rw length-set len;
      small = small;
      first = drop-set buffer 15 glyph (omega arith)
          ∙ ap (λ (g : ℕ). g ∷ drop 16 buffer) is
          ∙ ap (λ (t : List ℕ). digit_glyph false (n % 16) ∷ t) (all_dropped buffer 16 len ∙ sym at_end);
      same = rw at_end refl;
    }

small_pow : (left at : ℕ) → left < 16 ^ (at + 1) → 16 ≤ left → 0 < at
small_pow left zero h big = absurd (omega (arith, h))
small_pow left (suc k) h big = omega arith

pub Filling-next : (n left at glyph : ℕ) (buffer : List ℕ) → Filling n left at buffer → 16 ≤ left → glyph ≡ digit_glyph false (left / 16 % 16) → Filling n (left / 16) (at - 1) (set buffer (at - 1) glyph)
Filling-next n left at glyph buffer f big is =
    let above : 0 < at = small_pow left at f.small big in
    let back : at - 1 + 1 ≡ at = omega arith in
    let kept : drop at (set buffer (at - 1) glyph) ≡ drop at buffer = drop-set-lt at buffer (at - 1) glyph (omega arith) in
    let more : (left / 16 == 0) ≡ false = ne_eqb (left / 16) 0 (λ e. omega arith) in
    record {
      room = omega (arith, f.room);
      len = rw length-set f.len;
      small = rw back ((div-lt_iff_lt-mul {k = 16} {x = left} {y = 16 ^ at} (lit< tt)).1 (subst (λ (p : ℕ). left < p) (ap (λ (k : ℕ). 16 ^ k) (let e : at + 1 ≡ suc at = omega arith in e) ∙ pow-suc 16 at) f.small));
      first = rw (drop-set buffer (at - 1) glyph (omega (arith, f.room, f.len))) (rw (back, kept) (rw is refl));
      same = rw (back, kept) (let fuel : at - 1 + 49 ≡ at + 48 = omega arith in rw fuel (rw f.first (sym (onto_more (at + 48) (at + 49) left (drop (at + 1) buffer) (omega arith) more) ∙ f.same)));
    }

pub Filling-end : (n left at : ℕ) (buffer : List ℕ) → Filling n left at buffer → left < 16 → drop at buffer ≡ digits 16 false n
Filling-end n left at buffer f small =
    f.first ∙ sym (onto_last (at + 48) (at + 49) left (drop (at + 1) buffer) (omega arith) (eq-eqb (left / 16) 0 (omega arith))) ∙ f.same
