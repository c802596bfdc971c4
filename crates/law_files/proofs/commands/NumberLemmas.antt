-- Sums over the numbers from 1 on, in closed form.
use Rattle.std.proofs.Common.{◌≡◌, ℕ, zero, suc, ◌+◌, ◌-◌, ◌/◌, ◌%◌, ◌^◌, ◌<◌, ◌≤◌, min, [], ◌∷◌, length, refl, sym, ap, ◌∙◌, arith, ⊎_elim}
use Rattle.std.specs.Prelude.{map, decimal}
use Rattle.std.specs.List.{range_with_len, sum_by}
use Rattle.std.proofs.lemmas.Bool.{cases_lt}
use Rattle.std.proofs.lemmas.Fmt.{decimal_step, decimal_digit}
use Rattle.std.proofs.lemmas.List.{length-append}
use Rattle.std.proofs.lemmas.List.FromFn.{sum_by-map-range_with_len_more}
use Rattle.law_files.specs.Commands.SelftestSizes.{triangle, generated_data_size, above, digits_up_to}

-- ---- Sums

abbrev pub sum_to : (ℕ → ℕ) → ℕ → ℕ
sum_to f n = sum_by f (map (λ i. i) (range_with_len 1 n))

pub sum_to-next : (f : ℕ → ℕ) (n : ℕ) → sum_to f (n + 1) ≡ sum_to f n + f (n + 1)
sum_to-next f n = sum_by-map-range_with_len_more f (λ i. i) 1 n (n + 1) (omega arith)

pub triangle-next : (n : ℕ) → triangle (n + 1) ≡ triangle n + (n + 1)
unfolding triangle
triangle-next n = omega arith

six : triangle 6 ≡ 21
unfolding triangle
six = refl

none : triangle 0 ≡ 0
unfolding triangle
none = refl

-- ---- The data

data_bytes-next : (n : ℕ) → generated_data_size (n + 1) ≡ generated_data_size n + ((n + 1) % 7 + 1)
unfolding generated_data_size
data_bytes-next n = ⊎_elim
    (λ (below : n % 7 < 6).
    let same : (n + 1) / 7 ≡ n / 7 = omega arith in
    let next : (n + 1) % 7 ≡ n % 7 + 1 = omega arith in
    let more : triangle ((n + 1) % 7) ≡ triangle (n % 7) + (n % 7 + 1) = ap triangle next ∙ triangle-next (n % 7) in
    omega arith)
    (λ (from : 6 ≤ n % 7).
    let last : n % 7 ≡ 6 = omega arith in
    let next : (n + 1) / 7 ≡ n / 7 + 1 = omega arith in
    let first : (n + 1) % 7 ≡ 0 = omega arith in
    let before : triangle (n % 7) ≡ 21 = ap triangle last ∙ six in
    let after : triangle ((n + 1) % 7) ≡ 0 = ap triangle first ∙ none in
    omega arith)
    (cases_lt (n % 7) 6)

pub data_is : (n : ℕ) → sum_to (λ i. i % 7 + 1) n ≡ generated_data_size n
unfolding generated_data_size triangle
data_is zero = refl
data_is (suc n) =
    let one : n + 1 ≡ suc n = omega arith in
    ap (sum_to (λ i. i % 7 + 1)) (sym one) ∙ sum_to-next (λ i. i % 7 + 1) n ∙ ap (λ (m : ℕ). m + ((n + 1) % 7 + 1)) (data_is n) ∙ sym (data_bytes-next n) ∙ ap generated_data_size one

-- ---- Decimal digits

-- whether a number is above another, as 1 or 0
abbrev is_above : ℕ → ℕ → ℕ
is_above least n = min 1 (n - least)

above-next : (least n : ℕ) → above least (n + 1) ≡ above least n + is_above least (n + 1)
unfolding above
above-next least n = omega arith

-- one digit, and one more above 9, above 99 and so on
abbrev digits_of_one : ℕ → ℕ
digits_of_one n = 1 + is_above 9 n + is_above 99 n + is_above 999 n + is_above 9999 n

one_digit : (n : ℕ) → n < 10 → length (decimal n) ≡ 1
one_digit n small = ap length (decimal_digit n small)

next_digit : (n : ℕ) → 10 ≤ n → n < 2 ^ 64 → length (decimal n) ≡ length (decimal (n / 10)) + 1
next_digit n from small =
    ap length (decimal_step n from small) ∙ length-append (decimal (n / 10)) ((48 + n % 10) ∷ [])

two_digits : (n : ℕ) → 10 ≤ n → n < 100 → length (decimal n) ≡ 2
two_digits n from below = omega (arith, next_digit n from (omega arith), one_digit (n / 10) (omega arith))

three_digits : (n : ℕ) → 100 ≤ n → n < 1000 → length (decimal n) ≡ 3
three_digits n from below = omega (arith, next_digit n (omega arith) (omega arith), two_digits (n / 10) (omega arith) (omega arith))

four_digits : (n : ℕ) → 1000 ≤ n → n < 10000 → length (decimal n) ≡ 4
four_digits n from below = omega (arith, next_digit n (omega arith) (omega arith), three_digits (n / 10) (omega arith) (omega arith))

five_digits : (n : ℕ) → 10000 ≤ n → n < 100000 → length (decimal n) ≡ 5
five_digits n from below = omega (arith, next_digit n (omega arith) (omega arith), four_digits (n / 10) (omega arith) (omega arith))

length-decimal : (n : ℕ) → n < 100000 → length (decimal n) ≡ digits_of_one n
length-decimal n small = ⊎_elim
    (λ (h : n < 10). one_digit n h ∙ omega arith)
    (λ (a : 10 ≤ n). ⊎_elim
    (λ (h : n < 100). two_digits n a h ∙ omega arith)
    (λ (b : 100 ≤ n). ⊎_elim
    (λ (h : n < 1000). three_digits n b h ∙ omega arith)
    (λ (c : 1000 ≤ n). ⊎_elim
    (λ (h : n < 10000). four_digits n c h ∙ omega arith)
    (λ (d : 10000 ≤ n). five_digits n d small ∙ omega arith)
    (cases_lt n 10000))
    (cases_lt n 1000))
    (cases_lt n 100))
    (cases_lt n 10)

digits_up_to-next : (n : ℕ) → n + 1 < 100000 → digits_up_to (n + 1) ≡ digits_up_to n + length (decimal (n + 1))
unfolding digits_up_to
digits_up_to-next n small =
    rw (above-next 9 n, above-next 99 n, above-next 999 n, above-next 9999 n, length-decimal (n + 1) small)
    (regrouped n (above 9 n) (above 99 n) (above 999 n) (above 9999 n) (is_above 9 (n + 1)) (is_above 99 (n + 1)) (is_above 999 (n + 1)) (is_above 9999 (n + 1)))
  where
    regrouped : (n a b c d p q r s : ℕ) → n + 1 + (a + p) + (b + q) + (c + r) + (d + s) ≡ n + a + b + c + d + (1 + p + q + r + s)
    regrouped n a b c d p q r s = omega arith

pub digits_are : (n : ℕ) → n < 100000 → sum_to (λ i. length (decimal i)) n ≡ digits_up_to n
unfolding digits_up_to above
digits_are zero small = refl
digits_are (suc n) small =
    let one : n + 1 ≡ suc n = omega arith in
    ap (sum_to (λ i. length (decimal i))) (sym one) ∙ sum_to-next (λ i. length (decimal i)) n
    ∙ ap (λ (m : ℕ). m + length (decimal (n + 1))) (digits_are n (omega arith)) ∙ sym (digits_up_to-next n (omega arith)) ∙ ap digits_up_to one
