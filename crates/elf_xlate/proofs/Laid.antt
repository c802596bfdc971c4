-- Records laid by their tables, and read by them.
use Rattle.std.proofs.Common.{◌≡◌, ℕ, zero, suc, ◌+◌, ◌-◌, ◌^◌, ◌<◌, ◌≤◌, List, [], ◌∷◌, length, take, drop, get_or, Bool, true, false, refl, sym, ap, ◌∙◌, arith, inl, inr}
use Rattle.std.specs.Prelude.{◌⊎◌, ◌&&◌, ◌||◌, not, nat_lt, nat_le}
use Rattle.std.proofs.lemmas.List.{length-replicate, length-take-le, length-drop, get_or-take, get_or-drop, ext_get_or}
use Rattle.std.proofs.Math.ListN.{replicate}
use Rattle.std.proofs.lemmas.Bool.{cases_lt, and_parts, or_cases, ltb-true, leb-true, or_parts, or_left, or_right, and_cases, not-true, leb-false, ltb-false}
use Rattle.elf_types.specs.declared.records.Class.{Class}
use Rattle.elf_types.specs.declared.records.Order.{Order}
use Rattle.elf_xlate.specs.Numbers.{number_of, number_at, octets}
use Rattle.elf_xlate.specs.Fields.{Field, place_in, number_in, numbers_in, written, written_in, laid, record_bytes}
use Rattle.elf_xlate.proofs.Digits.{AreBytes, part_bytes, length_octets, number_of_octets, octets_number_of}
use Rattle.elf_xlate.proofs.Written.{length_written, written_same, written_before, written_after, written_again, written_inside, written_outside_low, written_outside_high}

-- a field lies in that many bytes
abbrev pub lies_in : Class → ℕ → Field → Bool
lies_in class size f = nat_le ((place_in class f).0 + (place_in class f).1) size

-- two fields share no byte
abbrev pub are_apart : Class → Field → Field → Bool
are_apart class f g =
    nat_le ((place_in class f).0 + (place_in class f).1) (place_in class g).0
    || nat_le ((place_in class g).0 + (place_in class g).1) (place_in class f).0

-- a field has the byte at a place
abbrev pub has_byte : Class → ℕ → Field → Bool
has_byte class k f = nat_le (place_in class f).0 k && nat_lt k ((place_in class f).0 + (place_in class f).1)

abbrev pub all_fields : (Field → Bool) → List Field → Bool
all_fields p [] = true
all_fields p (f ∷ fields) = p f && all_fields p fields

abbrev pub any_field : (Field → Bool) → List Field → Bool
any_field p [] = false
any_field p (f ∷ fields) = p f || any_field p fields

abbrev pub each_apart : Class → List Field → Bool
each_apart class [] = true
each_apart class (f ∷ fields) = all_fields (are_apart class f) fields && each_apart class fields

-- each byte from place `low` to below `low + count` is of a field
abbrev pub cover : Class → List Field → ℕ → ℕ → Bool
cover class fields low zero = true
cover class fields low (suc count) = any_field (has_byte class (low + count)) fields && cover class fields low count

-- a table whose fields lie in that many bytes and share none
pub record IsTable (class : Class) (size : ℕ) (fields : List Field) : Type 0 where
  pub within : all_fields (lies_in class size) fields ≡ true
  pub apart : each_apart class fields ≡ true

-- the numbers fit the widths of the fields
unfoldable pub Suit : Class → List Field → List ℕ → Type 0
Suit class [] [] = Unit {0}
Suit class [] (n ∷ ns) = ⊥
Suit class (f ∷ fields) [] = ⊥
Suit class (f ∷ fields) (n ∷ ns) = (n < 256 ^ (place_in class f).1) × Suit class fields ns

length_written_in : (class : Class) (order : Order) (f : Field) (n : ℕ) (bytes : List ℕ) → lies_in class (length bytes) f ≡ true
    → length (written_in class order f n bytes) ≡ length bytes
unfolding written_in
length_written_in class order f n bytes h =
    let place = (place_in class f).0 in
    let width = (place_in class f).1 in
    let len : length (octets order (place_in class f).1 n) ≡ (place_in class f).1 = length_octets order (place_in class f).1 n in
    let fits : (place_in class f).0 + (place_in class f).1 ≤ length bytes = leb-true _ _ h in
    length_written _ _ _ (rw len fits)

-- what is read of a field that was just written
read_same : (class : Class) (order : Order) (f : Field) (n : ℕ) (bytes : List ℕ) → lies_in class (length bytes) f ≡ true → n < 256 ^ (place_in class f).1
    → number_in class order (written_in class order f n bytes) f ≡ n
unfolding number_in number_at written_in
read_same class order f n bytes h small =
    let place : ℕ = (place_in class f).0 in
    let width : ℕ = (place_in class f).1 in
    let new : List ℕ = octets order width n in
    let len : length (octets order width n) ≡ width = length_octets order width n in
    let fits : place + width ≤ length bytes = leb-true _ _ h in
    let same = written_same place new bytes (rw len fits) in
    ap (λ (w : ℕ). number_of order (take w (drop place (written place new bytes)))) (sym len)
    ∙ ap (number_of order) same ∙ number_of_octets order width n small

-- what is read of another field
read_other : (class : Class) (order : Order) (f g : Field) (n : ℕ) (bytes : List ℕ) → lies_in class (length bytes) f ≡ true → are_apart class f g ≡ true
    → number_in class order (written_in class order f n bytes) g ≡ number_in class order bytes g
unfolding number_in number_at written_in
read_other class order f g n bytes h apart =
    let place : ℕ = (place_in class f).0 in
    let width : ℕ = (place_in class f).1 in
    let new : List ℕ = octets order width n in
    let len : length (octets order width n) ≡ width = length_octets order width n in
    let fits : place + width ≤ length bytes = leb-true _ _ h in
    elim (or_cases _ _ apart) [
      | inl after ↦ ap (number_of order) (written_after place new bytes _ _ (rw len fits) (rw len (leb-true _ _ after)))
      | inr before ↦ ap (number_of order) (written_before place new bytes _ _ (rw len fits) (leb-true _ _ before))
    ]

pub length_laid : (class : Class) (order : Order) (size : ℕ) (fields : List Field) (ns bytes : List ℕ) → length bytes ≡ size
    → all_fields (lies_in class size) fields ≡ true → length (laid class order fields ns bytes) ≡ size
length_laid class order size [] ns bytes len h = len
length_laid class order size (f ∷ fields) [] bytes len h = len
length_laid class order size (f ∷ fields) (n ∷ ns) bytes len h =
    let parts = and_parts _ _ h in
    let inside : lies_in class (length bytes) f ≡ true = rw len parts.0 in
    length_laid class order size fields ns (written_in class order f n bytes) (length_written_in class order f n bytes inside ∙ len) parts.1

apart_both : (class : Class) (f g : Field) → are_apart class f g ≡ true → are_apart class g f ≡ true
apart_both class f g h =
    let first : Bool = nat_le ((place_in class f).0 + (place_in class f).1) (place_in class g).0 in
    let second : Bool = nat_le ((place_in class g).0 + (place_in class g).1) (place_in class f).0 in
    elim (or_cases first second h) [ inl before ↦ or_right second first before | inr after ↦ or_left second first after ]

-- a field apart from all that are laid is read as before
pub read_apart : (class : Class) (order : Order) (size : ℕ) (g : Field) (fields : List Field) (ns bytes : List ℕ) → length bytes ≡ size
    → all_fields (lies_in class size) fields ≡ true → all_fields (are_apart class g) fields ≡ true
    → number_in class order (laid class order fields ns bytes) g ≡ number_in class order bytes g
read_apart class order size g [] ns bytes len h apart = refl
read_apart class order size g (f ∷ fields) [] bytes len h apart = refl
read_apart class order size g (f ∷ fields) (n ∷ ns) bytes len h apart =
    let parts = and_parts _ _ h in
    let aparts = and_parts _ _ apart in
    let inside : lies_in class (length bytes) f ≡ true = rw len parts.0 in
    read_apart class order size g fields ns (written_in class order f n bytes) (length_written_in class order f n bytes inside ∙ len) parts.1 aparts.1
    ∙ read_other class order f g n bytes inside (apart_both class g f aparts.0)

-- what is read of the fields of a table is what was laid there
pub read_laid : (class : Class) (order : Order) (size : ℕ) (fields : List Field) (ns bytes : List ℕ) → length bytes ≡ size
    → IsTable class size fields → Suit class fields ns → numbers_in class order (laid class order fields ns bytes) fields ≡ ns
unfolding Suit
read_laid class order size [] [] bytes len table suit = refl
read_laid class order size [] (n ∷ ns) bytes len table suit = absurd suit
read_laid class order size (f ∷ fields) [] bytes len table suit = absurd suit
read_laid class order size (f ∷ fields) (n ∷ ns) bytes len table suit =
    let parts = and_parts _ _ table.within in
    let aparts = and_parts _ _ table.apart in
    let inside : lies_in class (length bytes) f ≡ true = rw len parts.0 in
    let next : List ℕ = written_in class order f n bytes in
    let next_len : length (written_in class order f n bytes) ≡ size = length_written_in class order f n bytes inside ∙ len in
    let first = read_apart class order size f fields ns next next_len parts.1 aparts.0 ∙ read_same class order f n bytes inside suit.0 in
    let rest = read_laid class order size fields ns next next_len (record { within = parts.1; apart = aparts.1 }) suit.1 in
    rw (first, rest) refl

-- what stands in a field, written there, changes nothing
written_back : (class : Class) (order : Order) (f : Field) (bytes : List ℕ) → AreBytes bytes → lies_in class (length bytes) f ≡ true
    → written_in class order f (number_in class order bytes f) bytes ≡ bytes
unfolding number_in number_at written_in
written_back class order f bytes bs h =
    let place : ℕ = (place_in class f).0 in
    let width : ℕ = (place_in class f).1 in
    let fits : place + width ≤ length bytes = leb-true _ _ h in
    let piece : List ℕ = take width (drop place bytes) in
    let len : length (take width (drop place bytes)) ≡ width = length-take-le width (drop place bytes) (omega (arith, length-drop place bytes)) in
    ap (λ (new : List ℕ). written place new bytes) (octets_number_of order width piece len (part_bytes place width bytes bs))
    ∙ written_again place width bytes fits

-- what stands in the fields of a table, laid there, changes nothing
pub laid_back : (class : Class) (order : Order) (size : ℕ) (fields : List Field) (bytes : List ℕ) → AreBytes bytes → length bytes ≡ size
    → all_fields (lies_in class size) fields ≡ true → laid class order fields (numbers_in class order bytes fields) bytes ≡ bytes
laid_back class order size [] bytes bs len h = refl
laid_back class order size (f ∷ fields) bytes bs len h =
    let parts = and_parts _ _ h in
    let inside : lies_in class (length bytes) f ≡ true = rw len parts.0 in
    rw (written_back class order f bytes bs inside) (laid_back class order size fields bytes bs len parts.1)

-- a number is written alike into two lists: a byte is of the field, or is in both what it was
written_alike : (class : Class) (order : Order) (f : Field) (n k : ℕ) (xs ys : List ℕ) → lies_in class (length xs) f ≡ true → lies_in class (length ys) f ≡ true
    → (has_byte class k f ≡ true) ⊎ (get_or xs k 0 ≡ get_or ys k 0) → get_or (written_in class order f n xs) k 0 ≡ get_or (written_in class order f n ys) k 0
unfolding written_in
written_alike class order f n k xs ys hx hy which =
    let place : ℕ = (place_in class f).0 in
    let width : ℕ = (place_in class f).1 in
    let new : List ℕ = octets order width n in
    let len : length (octets order width n) ≡ width = length_octets order width n in
    let fits_x : place + length (octets order width n) ≤ length xs = rw len (leb-true _ _ hx) in
    let fits_y : place + length (octets order width n) ≤ length ys = rw len (leb-true _ _ hy) in
    elim (cases_lt k place) [
      | inl low ↦ elim which [
        | inl has ↦ absurd (omega (arith, low, leb-true place k (and_parts (nat_le place k) (nat_lt k (place + width)) has).0))
        | inr same ↦ written_outside_low place new xs k fits_x low ∙ same ∙ sym (written_outside_low place new ys k fits_y low)
      ]
      | inr past ↦ elim (cases_lt k (place + width)) [
        | inl inside ↦ written_inside place new xs k fits_x past (rw len inside) ∙ sym (written_inside place new ys k fits_y past (rw len inside))
        | inr high ↦ elim which [
          | inl has ↦ absurd (omega (arith, high, ltb-true k (place + width) (and_parts (nat_le place k) (nat_lt k (place + width)) has).1))
          | inr same ↦ written_outside_high place new xs k fits_x (rw len high) ∙ same ∙ sym (written_outside_high place new ys k fits_y (rw len high))
        ]
      ]
    ]

-- The same place of two lists holds the same byte, where it is of a field that is laid into both, or did
-- before.
pub laid_alike : (class : Class) (order : Order) (size k : ℕ) (fields : List Field) (ns xs ys : List ℕ) → length xs ≡ size → length ys ≡ size
    → length ns ≡ length fields → all_fields (lies_in class size) fields ≡ true
    → (any_field (has_byte class k) fields ≡ true) ⊎ (get_or xs k 0 ≡ get_or ys k 0)
    → get_or (laid class order fields ns xs) k 0 ≡ get_or (laid class order fields ns ys) k 0
laid_alike class order size k [] ns xs ys lx ly ln h (inr same) = same
laid_alike class order size k [] ns xs ys lx ly ln h (inl covered) = cc
laid_alike class order size k (f ∷ fields) [] xs ys lx ly ln h which = absurd (omega arith)
laid_alike class order size k (f ∷ fields) (n ∷ ns) xs ys lx ly ln h which =
    let parts = and_parts _ _ h in
    let in_xs : lies_in class (length xs) f ≡ true = rw lx parts.0 in
    let in_ys : lies_in class (length ys) f ≡ true = rw ly parts.0 in
    laid_alike class order size k fields ns (written_in class order f n xs) (written_in class order f n ys)
    (length_written_in class order f n xs in_xs ∙ lx) (length_written_in class order f n ys in_ys ∙ ly) (omega arith) parts.1
    (elim which [
      | inl covered ↦ elim (or_cases (has_byte class k f) (any_field (has_byte class k) fields) covered) [
        | inl here ↦ inr (written_alike class order f n k xs ys in_xs in_ys (inl here))
        | inr later ↦ inl later
      ]
      | inr same ↦ inr (written_alike class order f n k xs ys in_xs in_ys (inr same))
    ])

pub covered_below : (class : Class) (fields : List Field) (low count k : ℕ) → cover class fields low count ≡ true → low ≤ k → k < low + count
    → any_field (has_byte class k) fields ≡ true
covered_below class fields low zero k h at below = absurd (omega arith)
covered_below class fields low (suc count) k h at below =
    let parts = and_parts (any_field (has_byte class (low + count)) fields) (cover class fields low count) h in
    elim (cases_lt k (low + count)) [
      | inl less ↦ covered_below class fields low count k parts.1 at less
      | inr last ↦ let e : low + count ≡ k = omega arith in ap (λ (p : ℕ). any_field (has_byte class p) fields) (sym e) ∙ parts.0
    ]

-- What is laid where the fields cover all bytes from a place on does not depend on what was there.
pub laid_from : (class : Class) (order : Order) (size low : ℕ) (fields : List Field) (ns xs ys : List ℕ) → length xs ≡ size → length ys ≡ size → low ≤ size
    → length ns ≡ length fields → all_fields (lies_in class size) fields ≡ true → cover class fields low (size - low) ≡ true
    → ((k : ℕ) → k < low → get_or xs k 0 ≡ get_or ys k 0) → laid class order fields ns xs ≡ laid class order fields ns ys
laid_from class order size low fields ns xs ys lx ly small ln h covers front =
    let len_x = length_laid class order size fields ns xs lx h in
    let len_y = length_laid class order size fields ns ys ly h in
    ext_get_or 0 _ _ (len_x ∙ sym len_y)
    (λ k below. laid_alike class order size k fields ns xs ys lx ly ln h
    (elim (cases_lt k low) [
      | inl before ↦ inr (front k before)
      | inr past ↦ inl (covered_below class fields low (size - low) k covers past (omega (arith, below, len_x)))
    ]))

-- the bytes of a record, laid over any others
pub laid_is_record : (class : Class) (order : Order) (size : ℕ) (fields : List Field) (ns bytes : List ℕ) → length bytes ≡ size
    → length ns ≡ length fields → all_fields (lies_in class size) fields ≡ true → cover class fields 0 (size - 0) ≡ true
    → laid class order fields ns bytes ≡ record_bytes class order size fields ns
unfolding record_bytes
laid_is_record class order size fields ns bytes len ln h covers =
    laid_from class order size 0 fields ns bytes (replicate size 0) len (length-replicate size 0) (omega arith) ln h covers (λ k low. absurd (omega arith))

-- no field has a byte from place `low` to below `low + count`
abbrev pub spare : Class → List Field → ℕ → ℕ → Bool
spare class fields low zero = true
spare class fields low (suc count) = not (any_field (has_byte class (low + count)) fields) && spare class fields low count

spared_below : (class : Class) (fields : List Field) (low count k : ℕ) → spare class fields low count ≡ true → low ≤ k → k < low + count
    → any_field (has_byte class k) fields ≡ false
spared_below class fields low zero k h at below = absurd (omega arith)
spared_below class fields low (suc count) k h at below =
    let parts = and_parts (not (any_field (has_byte class (low + count)) fields)) (spare class fields low count) h in
    elim (cases_lt k (low + count)) [
      | inl less ↦ spared_below class fields low count k parts.1 at less
      | inr last ↦ let e : low + count ≡ k = omega arith in ap (λ (p : ℕ). any_field (has_byte class p) fields) (sym e) ∙ not-true _ parts.0
    ]

-- a byte of no field stays
written_beside : (class : Class) (order : Order) (f : Field) (n k : ℕ) (bytes : List ℕ) → lies_in class (length bytes) f ≡ true → has_byte class k f ≡ false
    → get_or (written_in class order f n bytes) k 0 ≡ get_or bytes k 0
unfolding written_in
written_beside class order f n k bytes h beside =
    let place : ℕ = (place_in class f).0 in
    let width : ℕ = (place_in class f).1 in
    let new : List ℕ = octets order width n in
    let len : length (octets order width n) ≡ width = length_octets order width n in
    let fits : place + length (octets order width n) ≤ length bytes = rw len (leb-true _ _ h) in
    elim (and_cases (nat_le place k) (nat_lt k (place + width)) beside) [
      | inl low ↦ written_outside_low place new bytes k fits (leb-false place k low)
      | inr high ↦ written_outside_high place new bytes k fits (rw len (ltb-false k (place + width) high))
    ]

laid_beside : (class : Class) (order : Order) (size k : ℕ) (fields : List Field) (ns bytes : List ℕ) → length bytes ≡ size
    → all_fields (lies_in class size) fields ≡ true → any_field (has_byte class k) fields ≡ false
    → get_or (laid class order fields ns bytes) k 0 ≡ get_or bytes k 0
laid_beside class order size k [] ns bytes len h beside = refl
laid_beside class order size k (f ∷ fields) [] bytes len h beside = refl
laid_beside class order size k (f ∷ fields) (n ∷ ns) bytes len h beside =
    let parts = and_parts _ _ h in
    let besides = or_parts (has_byte class k f) (any_field (has_byte class k) fields) beside in
    let inside : lies_in class (length bytes) f ≡ true = rw len parts.0 in
    laid_beside class order size k fields ns (written_in class order f n bytes) (length_written_in class order f n bytes inside ∙ len) parts.1 besides.1
    ∙ written_beside class order f n k bytes inside besides.0

-- bytes of no field stay
pub laid_spares : (class : Class) (order : Order) (size low count : ℕ) (fields : List Field) (ns bytes : List ℕ) → length bytes ≡ size → low + count ≤ size
    → all_fields (lies_in class size) fields ≡ true → spare class fields low count ≡ true
    → take count (drop low (laid class order fields ns bytes)) ≡ take count (drop low bytes)
laid_spares class order size low count fields ns bytes len room h spares =
    let whole = length_laid class order size fields ns bytes len h in
    let new : List ℕ = laid class order fields ns bytes in
    let len_new : length (take count (drop low (laid class order fields ns bytes))) ≡ count = length-take-le count (drop low new) (omega (arith, length-drop low new, whole)) in
    let len_old : length (take count (drop low bytes)) ≡ count = length-take-le count (drop low bytes) (omega (arith, length-drop low bytes, len)) in
    ext_get_or 0 _ _ (len_new ∙ sym len_old)
    (λ k below.
    let small : k < count = omega (arith, below, len_new) in
    get_or-take count (drop low new) k 0 small ∙ get_or-drop low new k 0
    ∙ laid_beside class order size (low + k) fields ns bytes len h (spared_below class fields low count (low + k) spares (omega arith) (omega (arith, small)))
    ∙ sym (get_or-take count (drop low bytes) k 0 small ∙ get_or-drop low bytes k 0))
