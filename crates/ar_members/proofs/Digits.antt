-- The number of a field, read digit by digit.
use Rattle.std.proofs.Common.{◌≡◌, ℕ, ◌+◌, ◌-◌, ◌*◌, ◌^◌, ◌<◌, ◌≤◌, Bool, true, false, List, length, get_or, take, drop, Some, refl, sym, ap, ◌∙◌, arith, add-one}
use Rattle.std.specs.List.{list_all, prefix_len}
use Rattle.std.specs.Bool.{then_some}
use Rattle.std.proofs.lemmas.List.{length-take-le, drop_all, take_rest}
use Rattle.std.proofs.lemmas.List.Sums.{prefix_len_is}
use Rattle.std.proofs.lemmas.Bool.Decides.{nat_tests}
use Rattle.std.proofs.Math.Nat.{pow-suc, pow-le-pow_right, mul-le-mul_left}
use Rattle.ar_members.specs.Numbers.{is_digit, is_space, value_of, number_of}

-- the bytes before a place are digits, and value is what they stand for
pub record ReadsDigits (base : ℕ) (field : List ℕ) (i value : ℕ) : Type 0 where
  pub digits : (k : ℕ) → k < i → is_digit base (get_or field k 0) ≡ true
  pub value_is : value ≡ value_of base (take i field)
  pub small : value < 10 ^ i

-- a digit is at most base - 1 above the code of 0
pub digit_within : (base b : ℕ) → is_digit base b ≡ true → (48 ≤ b) × (b < 48 + base)
digit_within base b h = grind (arith, nat_tests)

-- one digit more stays below the next power
pub small_more : (base value d i : ℕ) → base ≤ 10 → d < 10 → value < 10 ^ i → value * base + d < 10 ^ (i + 1)
small_more base value d i low digit below =
    let times : value * base ≤ value * 10 = mul-le-mul_left value low in
    let power : 10 ^ (i + 1) ≡ 10 ^ i * 10 = rw add-one (pow-suc 10 i) in
    omega arith

-- a number of at most n digits is below the power
pub small_within : (value i n : ℕ) → i ≤ n → value < 10 ^ i → value < 10 ^ n
small_within value i n short below =
    let power : 10 ^ i ≤ 10 ^ n = pow-le-pow_right (omega arith) short in
    omega arith

-- the number of a field whose digits end at i
pub number_at : (base : ℕ) (field : List ℕ) (i value : ℕ) → i ≤ length field → (i < length field → is_digit base (get_or field i 0) ≡ false) → ReadsDigits base field i value → number_of base field ≡ then_some (list_all is_space (drop i field)) value
unfolding number_of
number_at base field i value within stops reads =
    let len : prefix_len (is_digit base) field ≡ i = prefix_len_is (is_digit base) field i 0 within reads.digits stops in
    rw (len, length-take-le i field within, ← reads.value_is) refl

-- the number of a field of digits alone
pub number_whole : (base : ℕ) (field : List ℕ) (value : ℕ) → ReadsDigits base field (length field) value → number_of base field ≡ Some value
number_whole base field value reads =
    number_at base field (length field) value (omega arith) (λ h. absurd (omega (arith, h))) reads
    ∙ ap (λ rest. then_some (list_all is_space rest) value) (drop_all (length field) field (omega arith))

-- where a byte that is no digit comes, the number is what was read if spaces follow up to the end
pub number_stops : (base : ℕ) (field : List ℕ) (i value : ℕ) (blank : Bool) → i < length field → is_digit base (get_or field i 0) ≡ false → ReadsDigits base field i value → blank ≡ list_all is_space (take (length field - i) (drop i field)) → then_some blank value ≡ number_of base field
number_stops base field i value blank within stop reads spaces =
    let rest : blank ≡ list_all is_space (drop i field) = spaces ∙ ap (list_all is_space) (take_rest field i) in
    ap (λ b. then_some b value) rest ∙ sym (number_at base field i value (omega arith) (λ _. stop) reads)

-- a number of at most 15 digits, and a digit at its end, fit 64 bits
pub number_fits : (base value i d : ℕ) → base ≤ 10 → d < 10 → i < 15 → value < 10 ^ i → value * base + d < 2 ^ 64
number_fits base value i d low digit short below =
    let more : value * base + d < 10 ^ (i + 1) = small_more base value d i low digit below in
    let whole : value * base + d < 10 ^ 15 = small_within (value * base + d) (i + 1) 15 (omega arith) more in
    omega arith
