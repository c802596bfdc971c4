-- A number and its bytes.
use Rattle.std.proofs.Common.{◌≡◌, ℕ, zero, suc, ◌+◌, ◌-◌, ◌*◌, ◌/◌, ◌%◌, ◌^◌, ◌<◌, List, [], ◌∷◌, length, take, drop, get_or, refl, sym, ap, inl, inr, ◌∙◌, arith}
use Rattle.std.proofs.lemmas.List.{reverse-reverse, length-reverse, get_or-reverse, get_or-take, get_or-drop, get_or_past, length-take}
use Rattle.std.proofs.lemmas.Bool.{cases_lt}
use Rattle.std.proofs.Math.Nat.{pow-suc, pow-succ', div-lt_iff_lt-mul, mul-add-mod_self_left, mod-eq_of_lt}
use Rattle.std.proofs.lemmas.Nat.{div-mul-add}
use Rattle.std.specs.Prelude.{reverse}
use Rattle.std.specs.List.{All}
use Rattle.elf_types.specs.declared.records.Order.{Order}
use Rattle.elf_types.specs.declared.records.Order.TheVariants.{Least, Greatest}
use Rattle.elf_xlate.specs.Numbers.{by_weight, weighed, number_of, lowest_bytes, octets}
use Rattle.elf_xlate.specs.Orders.{weighed-suc}

-- each is below 256
unfoldable pub AreBytes : List ℕ → Type 0
AreBytes bytes = (k : ℕ) → get_or bytes k 0 < 256

pub are_bytes : (bytes : List ℕ) → All (λ b. b < 2 ^ 8) bytes → AreBytes bytes
unfolding AreBytes
are_bytes bytes h = λ k. elim (cases_lt k (length bytes)) [ inl low ↦ h k 0 low | inr high ↦ rw (get_or_past bytes k 0 high) (omega arith) ]

-- a part of bytes
pub part_bytes : (place width : ℕ) (bytes : List ℕ) → AreBytes bytes → AreBytes (take width (drop place bytes))
unfolding AreBytes
part_bytes place width bytes h =
    λ k. elim (cases_lt k width) [
      | inl low ↦ rw (get_or-take width (drop place bytes) k 0 low, get_or-drop place bytes k 0) (h (place + k))
      | inr high ↦ rw (get_or_past (take width (drop place bytes)) k 0 (omega (arith, length-take width (drop place bytes)))) (omega arith)
    ]

length_lowest : (width n : ℕ) → length (lowest_bytes width n) ≡ width
unfolding lowest_bytes
length_lowest zero n = refl
length_lowest (suc width) n = ap suc (length_lowest width (n / 256))

length_by_weight : (order : Order) (bytes : List ℕ) → length (by_weight order bytes) ≡ length bytes
unfolding by_weight
length_by_weight Least bytes = refl
length_by_weight Greatest bytes = length-reverse bytes

by_weight_twice : (order : Order) (bytes : List ℕ) → by_weight order (by_weight order bytes) ≡ bytes
unfolding by_weight
by_weight_twice Least bytes = refl
by_weight_twice Greatest bytes = reverse-reverse bytes

pub length_octets : (order : Order) (width n : ℕ) → length (octets order width n) ≡ width
unfolding octets
length_octets order width n = length_by_weight order (lowest_bytes width n) ∙ length_lowest width n

weighed_lowest : (width n : ℕ) → n < 256 ^ width → weighed 0 (lowest_bytes width n) ≡ n
unfolding weighed lowest_bytes
weighed_lowest zero n h = omega arith
weighed_lowest (suc width) n h =
    let power = pow-suc 256 width in
    let below : n / 256 < 256 ^ width = (div-lt_iff_lt-mul {k = 256} {x = n} {y = 256 ^ width} (omega arith)).1 (omega arith) in
    let rest = weighed_lowest width (n / 256) below in
    let further = weighed-suc 0 (lowest_bytes width (n / 256)) in
    rw (further, rest) (omega arith)

-- the number of a number's bytes
pub number_of_octets : (order : Order) (width n : ℕ) → n < 256 ^ width → number_of order (octets order width n) ≡ n
unfolding number_of octets
number_of_octets order width n h = ap (weighed 0) (by_weight_twice order (lowest_bytes width n)) ∙ weighed_lowest width n h

-- each of the bytes is below 256, where the first is, and the others are
lowest_weighed : (bytes : List ℕ) → AreBytes bytes → lowest_bytes (length bytes) (weighed 0 bytes) ≡ bytes
unfolding weighed lowest_bytes AreBytes
lowest_weighed [] h = refl
lowest_weighed (b ∷ bytes) h =
    let byte : b < 256 = h 0 in
    let rest = lowest_weighed bytes (λ k. h (suc k)) in
    let further : weighed 0 (b ∷ bytes) ≡ 256 * weighed 0 bytes + b = rw (weighed-suc 0 bytes) (omega arith) in
    let low : weighed 0 (b ∷ bytes) % 256 ≡ b = ap (λ (m : ℕ). m % 256) further ∙ mul-add-mod_self_left 256 (weighed 0 bytes) b ∙ mod-eq_of_lt byte in
    let high : weighed 0 (b ∷ bytes) / 256 ≡ weighed 0 bytes = ap (λ (m : ℕ). m / 256) (further ∙ omega arith) ∙ div-mul-add (weighed 0 bytes) 256 b byte in
    rw (low, high, rest) refl

by_weight_bytes : (order : Order) (bytes : List ℕ) → AreBytes bytes → AreBytes (by_weight order bytes)
unfolding by_weight AreBytes
by_weight_bytes Least bytes h = h
by_weight_bytes Greatest bytes h =
    λ k. elim (cases_lt k (length bytes)) [ inl low ↦ rw (get_or-reverse bytes k 0 low) (h (length bytes - 1 - k)) | inr high ↦ rw (get_or_past (reverse bytes) k 0 (rw (length-reverse bytes) high)) (omega arith) ]

-- the bytes of their number
pub octets_number_of : (order : Order) (width : ℕ) (bytes : List ℕ) → length bytes ≡ width → AreBytes bytes → octets order width (number_of order bytes) ≡ bytes
unfolding number_of octets
octets_number_of order width bytes e h =
    let same : width ≡ length (by_weight order bytes) = sym (length_by_weight order bytes ∙ e) in
    ap (λ (w : ℕ). by_weight order (lowest_bytes w (weighed 0 (by_weight order bytes)))) same
    ∙ ap (by_weight order) (lowest_weighed (by_weight order bytes) (by_weight_bytes order bytes h))
    ∙ by_weight_twice order bytes

weighed_below : (bytes : List ℕ) → AreBytes bytes → weighed 0 bytes < 256 ^ length bytes
unfolding weighed AreBytes
weighed_below [] h = omega arith
weighed_below (b ∷ bytes) h =
    let byte : b < 256 = h 0 in
    let rest = weighed_below bytes (λ k. h (suc k)) in
    let power = pow-succ' 256 (length bytes) in
    rw (weighed-suc 0 bytes, power) (omega arith)

-- a number of bytes is below that power of 256
pub number_below : (order : Order) (bytes : List ℕ) → AreBytes bytes → number_of order bytes < 256 ^ length bytes
unfolding number_of
number_below order bytes h =
    let below = weighed_below (by_weight order bytes) (by_weight_bytes order bytes h) in
    rw (length_by_weight order bytes) at below

-- the one byte of a number below 256
pub octets_one : (order : Order) (b : ℕ) → b < 256 → octets order 1 b ≡ b ∷ []
unfolding octets by_weight lowest_bytes
octets_one Least b h = ap (λ (m : ℕ). m ∷ []) (mod-eq_of_lt h)
octets_one Greatest b h = ap (λ (m : ℕ). m ∷ []) (mod-eq_of_lt h)
