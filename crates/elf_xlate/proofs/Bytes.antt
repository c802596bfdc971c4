-- Numbers of few bytes.
use Rattle.std.proofs.Common.{◌≡◌, ℕ, ◌<◌, ◌%◌, ◌^◌, ◌∙◌, List, [], ◌∷◌, length, take, get_or, map, slice_index_or, Fits, refl, sym, ap, subst, arith}
use Rattle.std.specs.Int.{w8}
use Rattle.std.specs.List.{All}
use Rattle.std.proofs.Math.Nat.{mod-eq_of_lt}
use Rattle.std.proofs.lemmas.List.Elements.{All-head, All-tail}
use Rattle.std.proofs.lemmas.List.{drop_more, get_or_default, take_all}
use Rattle.elf_types.specs.declared.records.Order.{Order}
use Rattle.elf_types.specs.declared.records.Order.TheVariants.{Least, Greatest}
use Rattle.elf_xlate.specs.Numbers.{by_weight, weighed, number_of, number_at}

number_of_one : (order : Order) (b : ℕ) → number_of order (b ∷ []) ≡ b
unfolding number_of by_weight weighed
number_of_one Least b = omega arith
number_of_one Greatest b = omega arith

-- the number of one byte
pub of_a_byte : (order : Order) (bytes : List ℕ) (place : ℕ) → place < length bytes → get_or bytes place 0 ≡ number_at order bytes place 1
unfolding number_at
of_a_byte order bytes place h =
    let front = drop_more bytes place 0 h in
    rw (front, number_of_one order (get_or bytes place 0)) refl

-- the number of no byte
pub number_of_none : (order : Order) (bytes : List ℕ) → length bytes ≡ 0 → number_of order bytes ≡ 0
unfolding number_of by_weight weighed
number_of_none Least [] h = refl
number_of_none Greatest [] h = refl
number_of_none order (b ∷ bytes) h = absurd (omega arith)

-- the number of all bytes
pub number_of_all : (order : Order) (bytes : List ℕ) → number_of order (take (length bytes) bytes) ≡ number_of order bytes
number_of_all order bytes = ap (number_of order) (take_all (length bytes) bytes (omega arith))

-- bytes are their own lowest bytes
pub lowest_same : (l : List ℕ) → All (λ n. n < 2 ^ 8) l → map (λ n. n % 256) l ≡ l
lowest_same [] small = refl
lowest_same (n ∷ l) small =
    ap (λ (m : ℕ). m ∷ map (λ k. k % 256) l) (mod-eq_of_lt (All-head (λ k. k < 2 ^ 8) n l small))
    ∙ ap (λ (bytes : List ℕ). n ∷ bytes) (lowest_same l (All-tail (λ k. k < 2 ^ 8) n l small))

-- what is read of a slice of bytes are bytes
pub read_are_bytes : (bytes l : List ℕ) → ((i : ℕ) → Fits w8 (slice_index_or bytes i 0)) → l ≡ bytes
    → All (λ n. n < 2 ^ 8) l
read_are_bytes bytes l are same =
    subst (λ (m : List ℕ). All (λ n. n < 2 ^ 8) m) (sym same)
    (λ k d low. subst (λ (n : ℕ). n < 2 ^ 8) (get_or_default bytes k 0 d low) (are k).fits)

-- and their own lowest bytes
pub read_lowest : (bytes l : List ℕ) → ((i : ℕ) → Fits w8 (slice_index_or bytes i 0)) → l ≡ bytes
    → l ≡ map (λ n. n % 256) bytes
read_lowest bytes l are same = same ∙ sym (lowest_same bytes (read_are_bytes bytes bytes are refl))
