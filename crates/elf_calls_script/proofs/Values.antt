-- The number that digits stand for, read from the first digit on.
use Rattle.std.proofs.Common.{◌≡◌, ◌+◌, ◌*◌, ◌^◌, ◌<◌, ◌≤◌, ℕ, Bool, true, false, ltb, List, [], ◌∷◌, length, drop, get_or, Some, None, refl, subst, arith, lit<, mul-le-mul_left}
use Rattle.std.specs.Char.{digit_value}
use Rattle.std.specs.Str.Parse.{digits_value, digits_value_after}
use Rattle.std.proofs.lemmas.Bool.{and_parts, ltb-true, lt-ltb}
use Rattle.std.proofs.lemmas.Bool.Decides.{nat_tests}
use Rattle.std.proofs.lemmas.List.{drop_more, drop_all}
use Rattle.elf_types.specs.Digits.{are_digits}
use Rattle.elf_calls_script.specs.Numbers.{number_if_below}

of_below : (bound n m : ℕ) → number_if_below bound n ≡ Some m → (m ≡ n) × (m < bound)
of_below bound n m e = from_cases (ltb n bound) refl
  where
    from_cases : (b : Bool) → ltb n bound ≡ b → (m ≡ n) × (m < bound)
    from_cases true t = let same : Some n ≡ Some m = rw t at e in (cc, subst (λ (x : ℕ). x < bound) (cc) (ltb-true n bound t))
    from_cases false t = let none : None ≡ Some m = rw t at e in absurd (cc)

-- the value of the digits up to a place, of which the digits from there on are left
pub record Valued (radix : ℕ) (digits : List ℕ) (at value : ℕ) : Type 0 where
  pub whole : digits_value_after radix value (drop at digits) ≡ digits_value radix digits
  pub digits_left : are_digits radix (drop at digits) ≡ true
  pub fits : value < 2 ^ 64

pub valued_begin : (radix : ℕ) (digits : List ℕ) → are_digits radix digits ≡ true → Valued radix digits 0 0
valued_begin radix digits d = record { whole = refl; digits_left = d; fits = lit< tt }

-- the next digit is one
pub digit_next : (radix : ℕ) (digits : List ℕ) (at value : ℕ) → Valued radix digits at value → at < length digits
    → digit_value (get_or digits at 0) < radix
digit_next radix digits at value v h =
    ltb-true _ _ (and_parts _ _ (rw (drop_more digits at 0 h) at v.digits_left)).0

with_next : (radix : ℕ) (digits : List ℕ) (at value : ℕ) → Valued radix digits at value → at < length digits
    → digits_value_after radix (value * radix + digit_value (get_or digits at 0)) (drop (at + 1) digits) ≡ digits_value radix digits
with_next radix digits at value v h = rw (drop_more digits at 0 h) at v.whole

pub valued_next : (radix : ℕ) (digits : List ℕ) (at value digit next : ℕ) → Valued radix digits at value → at < length digits
    → digit ≡ digit_value (get_or digits at 0) → number_if_below (2 ^ 64) (value * radix + digit) ≡ Some next → Valued radix digits (at + 1) next
valued_next radix digits at value digit next v h d e =
    let within = of_below (2 ^ 64) (value * radix + digit_value (get_or digits at 0)) next (rw d at e) in
    record {
      whole = rw within.0 (with_next radix digits at value v h);
      digits_left = (and_parts _ _ (rw (drop_more digits at 0 h) at v.digits_left)).1;
      fits = within.1;
    }

grows : (radix n : ℕ) (digits : List ℕ) → 1 ≤ radix → n ≤ digits_value_after radix n digits
grows radix n [] h = omega arith
grows radix n (c ∷ cs) h =
    let up : n * 1 ≤ n * radix = mul-le-mul_left n h in
    omega (arith, up, grows radix (n * radix + digit_value c) cs h)

beyond : (bound n m : ℕ) → number_if_below bound n ≡ None → n ≤ m → number_if_below bound m ≡ None
beyond bound n m e h = grind (arith, nat_tests)

-- a number that is too great stays so
pub valued_refused : (radix : ℕ) (digits : List ℕ) (at value digit : ℕ) → Valued radix digits at value → at < length digits → 1 ≤ radix
    → digit ≡ digit_value (get_or digits at 0) → number_if_below (2 ^ 64) (value * radix + digit) ≡ None
    → number_if_below (2 ^ 64) (digits_value radix digits) ≡ None
valued_refused radix digits at value digit v h one d e =
    beyond (2 ^ 64) _ _ (rw d at e) (subst (λ (x : ℕ). value * radix + digit_value (get_or digits at 0) ≤ x) (with_next radix digits at value v h) (grows radix _ (drop (at + 1) digits) one))

pub valued_end : (radix : ℕ) (digits : List ℕ) (at value : ℕ) → Valued radix digits at value → length digits ≤ at
    → number_if_below (2 ^ 64) (digits_value radix digits) ≡ Some value
valued_end radix digits at value v h =
    let same : value ≡ digits_value radix digits = rw (drop_all at digits h) at v.whole in
    let fits = v.fits in
    rw (← same) (rw (lt-ltb _ _ fits) refl)
