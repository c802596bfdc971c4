-- What `from_str_radix` gives of a word of digits.
use Rattle.std.proofs.Common.{subst, ◌≡◌, ◌^◌, ◌<◌, ◌≤◌, List, [], ◌∷◌, ℕ, Bool, true, cond, length, Result, Ok, Err, Some, None, Decides, refl, sym, ap, ◌∙◌, arith}
use Rattle.std.specs.Result.{OkIff, result_ok}
use Rattle.std.specs.Str.Parse.{ParsesUnsigned, IsNumeral, AllDigits, digits_value, without_leading_plus}
use Rattle.std.specs.Char.{digit_value}
use Rattle.std.proofs.lemmas.Bool.{and_parts, ltb-true, false_from_ne_true, cond-true, cond-false, le-leb, leb-true, lt-ltb, and_from}
use Rattle.std.proofs.lemmas.Str.Parse.{without_leading_plus_none}
use Rattle.elf_types.specs.Digits.{are_digits}
use Rattle.elfkit_words.specs.Numbers.{numeral}

all_digits : (radix : ℕ) (word : List ℕ) → are_digits radix word ≡ true → AllDigits radix word
all_digits radix [] d = tt
all_digits radix (c ∷ cs) d =
    let p = and_parts _ _ d in
    (ltb-true _ _ p.0, all_digits radix cs p.1)

no_plus : (radix : ℕ) (word : List ℕ) → radix ≤ 36 → AllDigits radix word → without_leading_plus word ≡ word
no_plus radix [] high d = refl
no_plus radix (c ∷ cs) high d = without_leading_plus_none (c ∷ cs) (λ e. let f : digit_value 43 < radix = subst (λ x. digit_value x < radix) e d.0 in omega arith)

value_of : {E : Type 0} (r : Result ℕ E) (b : Bool) (P : Type 0) (v : ℕ) → Decides b P → OkIff r P v → result_ok r ≡ cond b (Some v) None
value_of (Ok x) b P v d h = ap Some h.1 ∙ sym (cond-true b _ _ (d.1 h.0))
value_of (Err e) b P v d h = sym (cond-false b _ _ (false_from_ne_true b (λ t. h (d.0 t))))

pub numeral_read : {E : Type 0} (radix most : ℕ) (word : List ℕ) (r : Result ℕ E) → radix ≤ 36 → length word ≤ most → are_digits radix word ≡ true → ParsesUnsigned 64 radix word r → result_ok r ≡ numeral radix most word
unfolding numeral
numeral_read {E} radix most word r high short d h =
    let all = all_digits radix word d in
    let v = digits_value radix word in
    let P : Type 0 = IsNumeral radix word × (v < 2 ^ 64) in
    let plain : OkIff r P v = subst (λ w. OkIff r (IsNumeral radix w × (digits_value radix w < 2 ^ 64)) (digits_value radix w)) (no_plus radix word high all) h in
    value_of r _ P v (
      (λ t. ((leb-true 1 _ (and_parts _ _ (and_parts _ _ (and_parts _ _ t).0).0).1, all), ltb-true _ _ (and_parts _ _ t).1)),
      (λ p. and_from _ _ (and_from _ _ (and_from _ _ d (le-leb _ _ p.0.0)) (le-leb _ _ short)) (lt-ltb _ _ p.1)),
    )
    plain
