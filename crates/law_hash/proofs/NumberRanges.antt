-- The numbers of the hash sections that are built are in the ranges of their types: bytes, and
-- words of 32 bits.
use Rattle.std.proofs.Common.{◌≡◌, ◌+◌, ◌%◌, ◌<◌, ◌≤◌, ◌^◌, ℕ, List, [], ◌∷◌, ◌++◌, length, get_or, map, Option, Some, None, arith}
use Rattle.std.specs.Prelude.{All, filter, nat_lt, slice_get}
use Rattle.std.specs.List.{range_with_len}
use Rattle.std.proofs.lemmas.List.{length-map}
use Rattle.std.proofs.lemmas.List.Elements.{All-cons, All-append, All-head, All-map, All-filter, All-weaker, All-from_get_or}
use Rattle.std.proofs.lemmas.List.FromFn.{length-map-range_with_len}
use Rattle.std.specs.Option.{option_map}
use Rattle.elf_types.specs.declared.records.Class.{Class}
use Rattle.elf_types.specs.declared.records.Order.{Order}
use Rattle.elf_types.specs.Lists.{AreBytes}
use Rattle.elf_xlate.specs.Numbers.{octets}
use Rattle.elf_xlate.proofs.ByteRanges.{octets_are, each_are}
use Rattle.rebuild_model.specs.elf_object.Sections.{number_or_0}
use Rattle.rebuild_model.specs.hash_model.Hashes.{elf_hash}
use Rattle.rebuild_model.specs.hash_model.HashSections.{GnuHash, bloom_bytes, numbers_as, gnu_bytes, sysv_words}
use Rattle.rebuild_model.specs.hash_model.BuiltHashes.{buckets_of, in_bucket, is_in, first_in, next_in, sysv_built}
use Rattle.law_rebuild.proofs.strip.KeptLaws.{IsInRange, range_within}

-- ---- Bytes

numbers_are : (order : Order) (width : ℕ) (l : List ℕ) → AreBytes (numbers_as order width l)
numbers_are order width l = each_are (octets order width) (octets_are order width) l

pub gnu_are : (class : Class) (order : Order) (h : GnuHash) → AreBytes (gnu_bytes class order h)
unfolding gnu_bytes
gnu_are class order h =
    let P : ℕ → Type 0 = λ n. n < 2 ^ 8 in
    let head = length h.buckets ∷ h.symoffset ∷ length h.bloom ∷ h.shift ∷ [] in
    let bloom = numbers_as order (bloom_bytes class) h.bloom in
    let buckets = numbers_as order 4 h.buckets in
    let chains = numbers_as order 4 h.chains in
    All-append P (numbers_as order 4 head) (bloom ++ (buckets ++ chains))
    (numbers_are order 4 head)
    (All-append P bloom (buckets ++ chains) (numbers_are order (bloom_bytes class) h.bloom)
    (All-append P buckets chains (numbers_are order 4 h.buckets) (numbers_are order 4 h.chains)))

-- ---- Words

abbrev IsWord : ℕ → Type 0
IsWord n = n < 2 ^ 32

first_low : (l : List ℕ) (n : ℕ) → n ≤ 2 ^ 32 → All (λ i. i < n) l → get_or l 0 0 < 2 ^ 32
first_low [] n few all = omega arith
first_low (x ∷ l) n few all =
    let below : x < n = All-head (λ i. i < n) x l all in omega (arith, few, below)

number_low : (l : List ℕ) (n : ℕ) → n ≤ 2 ^ 32 → All (λ i. i < n) l
    → number_or_0 (slice_get l 0) < 2 ^ 32
number_low [] n few all = omega arith
number_low (x ∷ l) n few all =
    let below : x < n = All-head (λ i. i < n) x l all in omega (arith, few, below)

module _ (buckets : List (Option ℕ)) (few : length buckets ≤ 2 ^ 32) where
  inside : (b : ℕ) → All (λ i. i < length buckets) (in_bucket buckets b)
  unfolding in_bucket
  inside b =
      let n = length buckets in
      All-filter (λ i. is_in b (get_or buckets i None)) (λ i. i < n) (range_with_len 0 n)
      (All-weaker (λ i. IsInRange 0 (0 + n) i) (λ i. i < n) (λ i is. omega (arith, is.1))
      (range_with_len 0 n) (range_within 0 n))

  first_word : (b : ℕ) → IsWord (first_in buckets b)
  first_word b = first_low (in_bucket buckets b) (length buckets) few (inside b)

  next_word : (i : ℕ) → IsWord (next_in buckets i)
  unfolding next_in
  next_word i = by (get_or buckets i None)
    where
      by : (b : Option ℕ) → IsWord (elim b [
        | None ↦ 0
        | Some bucket ↦
            number_or_0 (slice_get (filter (λ later. nat_lt i later) (in_bucket buckets bucket)) 0)
      ])
      by None = omega arith
      by (Some bucket) =
          number_low (filter (λ later. nat_lt i later) (in_bucket buckets bucket)) (length buckets)
          few
          (All-filter (λ later. nat_lt i later) (λ j. j < length buckets)
          (in_bucket buckets bucket) (inside bucket))

each_word : (f : ℕ → ℕ) → ((i : ℕ) → IsWord (f i)) → (n : ℕ)
    → All IsWord (map f (range_with_len 0 n))
each_word f is n =
    All-map IsWord f (range_with_len 0 n)
    (All-from_get_or (λ i. IsWord (f i)) (range_with_len 0 n) 0
    (λ i below. is (get_or (range_with_len 0 n) i 0)))

pub sysv_are : (count : ℕ) (names : List (Option (List ℕ))) → count < 2 ^ 32
    → length names < 2 ^ 32 → All IsWord (sysv_words (sysv_built count names))
unfolding sysv_words sysv_built buckets_of
sysv_are count names few symbols =
    let buckets = buckets_of elf_hash count names in
    let long : length (buckets_of elf_hash count names) ≡ length names =
    length-map names (option_map (λ (name : List ℕ). elf_hash name % count)) in
    let low : length (buckets_of elf_hash count names) ≤ 2 ^ 32 =
    omega (arith, long, symbols) in
    let firsts = map (first_in buckets) (range_with_len 0 count) in
    let nexts = map (next_in buckets) (range_with_len 0 (length names)) in
    let one = length-map-range_with_len (first_in buckets) 0 count in
    let other = length-map-range_with_len (next_in buckets) 0 (length names) in
    All-cons IsWord (length firsts) (length nexts ∷ (firsts ++ nexts))
    (omega (arith, one, few))
    (All-cons IsWord (length nexts) (firsts ++ nexts) (omega (arith, other, symbols))
    (All-append IsWord firsts nexts (each_word (first_in buckets) (first_word buckets low) count)
    (each_word (next_in buckets) (next_word buckets low) (length names))))
