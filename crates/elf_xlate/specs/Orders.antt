-- The numbers of the crate byteorder are those of `Numbers`, as the laws of the trait `Endian` say.
-- These lemmas stand here, since the laws of an impl cannot name proofs/.
use Rattle.std.proofs.Common.{◌≡◌, ℕ, zero, suc, ◌+◌, ◌*◌, ◌/◌, ◌%◌, ◌^◌, ◌≤◌, List, [], ◌∷◌, ◌++◌, length, take, refl, sym, ap, ◌∙◌, zero-add, arith}
use Rattle.std.proofs.lemmas.List.{reverse-append, length-reverse, length-take-le}
use Rattle.std.proofs.Math.Nat.{add_assoc, add_comm, div-div-eq-div-mul, div-one, pow-suc, pow-succ'}
use Rattle.std.specs.Prelude.{reverse}
use Rattle.std.specs.Int.{byte_at, bytes_high_first, bytes_low_first}
use Rattle.byteorder.specs.Endian.{big_from, little_from}
use Rattle.byteorder.specs.Numbers.{big_from-cons, little_from-cons}
use Rattle.elf_types.specs.declared.records.Order.TheVariants.{Least, Greatest}
use Rattle.elf_xlate.specs.Numbers.{by_weight, weighed, number_of, lowest_bytes, octets}

-- one step further from the least byte
pub weighed-suc : (d : ℕ) (bytes : List ℕ) → weighed (suc d) bytes ≡ 256 * weighed d bytes
unfolding weighed
weighed-suc d [] = refl
weighed-suc d (b ∷ bytes) =
    let rest = weighed-suc (suc d) bytes in
    let power = pow-succ' 256 d in
    rw (rest, power) (omega arith)

pub weighed-append : (d : ℕ) (xs ys : List ℕ)
    → weighed d (xs ++ ys) ≡ weighed d xs + weighed (d + length xs) ys
unfolding weighed
weighed-append d [] ys =
    let place : d + 0 ≡ d = omega arith in
    sym (zero-add (weighed (d + 0) ys) ∙ ap (λ (p : ℕ). weighed p ys) place)
weighed-append d (x ∷ xs) ys =
    let rest = weighed-append (suc d) xs ys in
    let place : suc d + length xs ≡ d + suc (length xs) = omega arith in
    rw (rest, place)
    (sym (add_assoc (x * 256 ^ d) (weighed (suc d) xs) (weighed (d + suc (length xs)) ys)))

-- what little endian reads
pub little_reads : (width : ℕ) (bytes : List ℕ) → width ≤ length bytes
    → little_from 0 width bytes ≡ number_of Least (take width bytes)
unfolding number_of by_weight weighed
little_reads zero bytes h = refl
little_reads (suc width) [] h = absurd (omega arith)
little_reads (suc width) (b ∷ bytes) h =
    let moved = little_from-cons 0 width b bytes in
    let rest = little_reads width bytes (omega arith) in
    let further = weighed-suc 0 (take width bytes) in
    rw (moved, rest, further) (omega arith)

-- what big endian reads
pub big_reads : (width : ℕ) (bytes : List ℕ) → width ≤ length bytes
    → big_from 0 width bytes ≡ number_of Greatest (take width bytes)
unfolding number_of by_weight weighed
big_reads zero bytes h = refl
big_reads (suc width) [] h = absurd (omega arith)
big_reads (suc width) (b ∷ bytes) h =
    let moved = big_from-cons 0 width b bytes in
    let rest = big_reads width bytes (omega arith) in
    let turned = reverse-append (b ∷ []) (take width bytes) in
    let split = weighed-append 0 (reverse (take width bytes)) (b ∷ []) in
    let len : 0 + length (reverse (take width bytes)) ≡ width =
    zero-add (length (reverse (take width bytes))) ∙ length-reverse (take width bytes)
    ∙ length-take-le width bytes (omega arith) in
    let whole : weighed 0 (reverse (b ∷ take width bytes))
    ≡ number_of Greatest (take width bytes) + b * 256 ^ width =
    ap (weighed 0) turned ∙ split
    ∙ ap (λ (p : ℕ). weighed 0 (reverse (take width bytes)) + (b * 256 ^ p + 0)) len
    ∙ omega arith in
    rw (moved, rest, whole) (add_comm (b * 256 ^ width) (number_of Greatest (take width bytes)))

-- what little endian writes, from the byte j on
low_first : (j width n : ℕ) → bytes_low_first j width n ≡ lowest_bytes width (n / 256 ^ j)
unfolding lowest_bytes
low_first j zero n = refl
low_first zero (suc width) n =
    let rest = low_first 1 width n in
    let whole = div-one n in
    rw (rest, whole) refl
low_first (suc j) (suc width) n =
    let rest = low_first (suc (suc j)) width n in
    let further : n / 256 ^ suc (suc j) ≡ n / 256 ^ suc j / 256 =
    ap (λ (p : ℕ). n / p) (pow-suc 256 (suc j)) ∙ sym (div-div-eq-div-mul n (256 ^ suc j) 256) in
    rw (rest, further) refl

pub little_writes : (width n : ℕ) → bytes_low_first 0 width n ≡ octets Least width n
unfolding octets by_weight
little_writes width n = low_first 0 width n ∙ ap (lowest_bytes width) (div-one n)

-- one byte more of a number
lowest_more : (width n : ℕ)
    → lowest_bytes (suc width) n ≡ lowest_bytes width n ++ (n / 256 ^ width % 256) ∷ []
unfolding lowest_bytes
lowest_more zero n = ap (λ (m : ℕ). (m % 256) ∷ []) (sym (div-one n))
lowest_more (suc width) n =
    let rest = lowest_more width (n / 256) in
    let further : n / 256 / 256 ^ width ≡ n / 256 ^ suc width =
    div-div-eq-div-mul n 256 (256 ^ width) ∙ ap (λ (p : ℕ). n / p) (sym (pow-succ' 256 width)) in
    ap (λ (bytes : List ℕ). (n % 256) ∷ bytes)
    (rest ∙ ap (λ (m : ℕ). lowest_bytes width (n / 256) ++ (m % 256) ∷ []) further)

-- a byte of a number by its distance
byte_at_distance : (d n : ℕ) → byte_at d n ≡ n / 256 ^ d % 256
byte_at_distance zero n = ap (λ (m : ℕ). m % 256) (sym (div-one n))
byte_at_distance (suc d) n = refl

-- what big endian writes
pub big_writes : (width n : ℕ) → bytes_high_first width n ≡ octets Greatest width n
unfolding octets by_weight lowest_bytes
big_writes zero n = refl
big_writes (suc width) n =
    let rest = big_writes width n in
    let byte = byte_at_distance width n in
    let turned : reverse (lowest_bytes width n ++ (n / 256 ^ width % 256) ∷ [])
    ≡ (n / 256 ^ width % 256) ∷ reverse (lowest_bytes width n) =
    reverse-append (lowest_bytes width n) ((n / 256 ^ width % 256) ∷ []) in
    ap (λ (bs : List ℕ). byte_at width n ∷ bs) rest
    ∙ ap (λ (m : ℕ). m ∷ reverse (lowest_bytes width n)) byte
    ∙ sym (ap reverse (lowest_more width n) ∙ turned)
