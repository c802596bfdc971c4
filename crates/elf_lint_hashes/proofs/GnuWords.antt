-- The words of GNU's hash section, where they stand in its bytes.
use Rattle.std.proofs.Common.{◌≡◌, ℕ, ◌+◌, ◌-◌, ◌*◌, ◌/◌, ◌<◌, ◌≤◌, Bool, true, false, not, ◌==◌, ◌&&◌, List, length, get_or, Option, Some, None, refl, sym, ap, ◌∙◌, subst, inl, inr, ◌⊎◌, arith}
use Rattle.std.specs.Prelude.{nat_le, nat_lt, slice_get, if◌then◌else◌}
use Rattle.std.proofs.lemmas.Bool.{le-leb, lt-leb, lt-ltb, le-ltb, eq-eqb, ne_eqb}
use Rattle.std.proofs.lemmas.Option.{slice_get-get_or, slice_get_past}
use Rattle.std.proofs.lemmas.List.FromFn.{length-map-range_with_len, get_or-map-range_with_len}
use Rattle.std.proofs.Math.Nat.{mod-lt}
use Rattle.elf_types.specs.declared.records.Class.{Class}
use Rattle.elf_types.specs.declared.records.Order.{Order}
use Rattle.elf_xlate.specs.Numbers.{number_at}
use Rattle.hash_model.specs.HashSections.{GnuHash, bloom_bytes, numbers_at, gnu_word, gnu_in, gnu_head, gnu_chains_at}
use Rattle.elf_lint_hashes.specs.declared.gnu.GnuTable.{GnuTable}
use Rattle.elf_lint_hashes.specs.Gnu.{has_parts, gnu_section_of, IsGnuTable, GnuTableFitsIn}

module _ (order : Order) (bytes : List ℕ) (at width count : ℕ) where
  numbers_len : length (numbers_at order bytes at width count) ≡ count
  numbers_len = length-map-range_with_len (λ i. number_at order bytes (at + width * i) width) 0 count

  number_is : (k : ℕ) → k < count → get_or (numbers_at order bytes at width count) k 0 ≡ number_at order bytes (at + width * k) width
  number_is k below = get_or-map-range_with_len (λ i. number_at order bytes (at + width * i) width) 0 count k k 0 below (omega arith)

  number_there : (k : ℕ) → k < count → slice_get (numbers_at order bytes at width count) k ≡ Some (number_at order bytes (at + width * k) width)
  number_there k below =
      slice_get-get_or (numbers_at order bytes at width count) k 0 (omega (arith, numbers_len)) ∙ ap Some (number_is k below)

  number_past : (k : ℕ) → count ≤ k → slice_get (numbers_at order bytes at width count) k ≡ None
  number_past k past = slice_get_past (numbers_at order bytes at width count) k (omega (arith, numbers_len))

-- a number that lies in the bytes is there
there : (order : Order) (bytes : List ℕ) (at width : ℕ) → at + width ≤ length bytes
    → (if nat_le (at + width) (length bytes) then Some (number_at order bytes at width) else None) ≡ Some (number_at order bytes at width)
there order bytes at width within = ap (λ (b : Bool). if b then Some (number_at order bytes at width) else None) (le-leb (at + width) (length bytes) within)

-- ---- Chain words

module _ (t : GnuTable) (bytes : List ℕ) (i : ℕ) where
  pub word_low : i < t.symoffset → None ≡ gnu_word (gnu_section_of t bytes) t.count i
  unfolding gnu_section_of
  word_low low =
      sym (ap (λ (b : Bool). if b && nat_lt i t.count then slice_get (gnu_section_of t bytes).chains (i - t.symoffset) else None) (lt-leb t.symoffset i low))

  by_tests : (a b : Bool) → a ≡ true → b ≡ true → (x : Option ℕ) → x ≡ (if a && b then x else None)
  by_tests true true one two x = refl
  by_tests true false one two x = cc
  by_tests false b one two x = cc

  no_tests : (a b : Bool) → b ≡ false → (x : Option ℕ) → None ≡ (if a && b then x else None)
  no_tests true true two x = cc
  no_tests true false two x = refl
  no_tests false b two x = refl

  pub word_high : t.count ≤ i → None ≡ gnu_word (gnu_section_of t bytes) t.count i
  unfolding gnu_section_of
  word_high high = no_tests (nat_le t.symoffset i) (nat_lt i t.count) (le-ltb i t.count high) (slice_get (gnu_section_of t bytes).chains (i - t.symoffset))

  module _ (from : t.symoffset ≤ i) (below : i < t.count) where
    word_as : slice_get (gnu_section_of t bytes).chains (i - t.symoffset) ≡ gnu_word (gnu_section_of t bytes) t.count i
    unfolding gnu_section_of
    word_as = by_tests (nat_le t.symoffset i) (nat_lt i t.count) (le-leb t.symoffset i from) (lt-ltb i t.count below) (slice_get (gnu_section_of t bytes).chains (i - t.symoffset))

    pub word_past : (length bytes - t.chains) / 4 ≤ i - t.symoffset → None ≡ gnu_word (gnu_section_of t bytes) t.count i
    unfolding gnu_section_of
    word_past past = sym (number_past t.order bytes t.chains 4 ((length bytes - t.chains) / 4) (i - t.symoffset) past) ∙ word_as

    pub word_there : i - t.symoffset < (length bytes - t.chains) / 4 → t.chains ≤ length bytes
        → (if nat_le (t.chains + 4 * (i - t.symoffset) + 4) (length bytes) then Some (number_at t.order bytes (t.chains + 4 * (i - t.symoffset)) 4) else None)
        ≡ gnu_word (gnu_section_of t bytes) t.count i
    unfolding gnu_section_of
    word_there within all =
        there t.order bytes (t.chains + 4 * (i - t.symoffset)) 4 (omega (arith, within, all))
        ∙ sym (number_there t.order bytes t.chains 4 ((length bytes - t.chains) / 4) (i - t.symoffset) within) ∙ word_as

pub ruleset word_rules = (word_low, word_high, word_past, word_there)

-- ---- Buckets and bloom words

module _ (t : GnuTable) (bytes : List ℕ) (k : ℕ) where
  pub bucket_is : k < t.nbuckets → number_at t.order bytes (16 + bloom_bytes t.class * t.size + 4 * k) 4 ≡ get_or (gnu_section_of t bytes).buckets k 0
  unfolding gnu_section_of
  bucket_is below = sym (number_is t.order bytes (16 + bloom_bytes t.class * t.size) 4 t.nbuckets k below)

pub bucket_count : (t : GnuTable) (bytes : List ℕ) → length (gnu_section_of t bytes).buckets ≡ t.nbuckets
unfolding gnu_section_of
bucket_count t bytes = numbers_len t.order bytes (16 + bloom_bytes t.class * t.size) 4 t.nbuckets

pub bucket_some : (t : GnuTable) (bytes : List ℕ) → GnuTableFitsIn (length bytes) t → 0 < length (gnu_section_of t bytes).buckets
bucket_some t bytes lies = omega (arith, bucket_count t bytes, lies.some)

pub bloom_count : (t : GnuTable) (bytes : List ℕ) → length (gnu_section_of t bytes).bloom ≡ t.size
unfolding gnu_section_of
bloom_count t bytes = numbers_len t.order bytes 16 (bloom_bytes t.class) t.size

pub bloom_is : (t : GnuTable) (bytes : List ℕ) (k : ℕ) → k < t.size → number_at t.order bytes (16 + bloom_bytes t.class * k) (bloom_bytes t.class) ≡ get_or (gnu_section_of t bytes).bloom k 0
unfolding gnu_section_of
bloom_is t bytes k below = sym (number_is t.order bytes 16 (bloom_bytes t.class) t.size k below)

pub ruleset bucket_rules = (bucket_is, le-leb)

pub ruleset bloom_rules = (bloom_is, bloom_count, le-leb, mod-lt)

-- ---- The numbers at the beginning

module _ (c : Class) (order : Order) (bytes : List ℕ) where
  abbrev parts_by : Bool → Bool → Bool → Bool → Bool
  parts_by short nbuckets size room = short && not nbuckets && not size && room

  abbrev len_of_buckets : ℕ
  len_of_buckets = length (gnu_in c order bytes).buckets

  abbrev len_of_bloom : ℕ
  len_of_bloom = length (gnu_in c order bytes).bloom

  buckets_len : len_of_buckets ≡ number_at order bytes 0 4
  unfolding gnu_in gnu_head
  buckets_len = numbers_len order bytes (16 + bloom_bytes c * number_at order bytes 8 4) 4 (number_at order bytes 0 4)

  bloom_len : len_of_bloom ≡ number_at order bytes 8 4
  unfolding gnu_in gnu_head
  bloom_len = numbers_len order bytes 16 (bloom_bytes c) (number_at order bytes 8 4)

  third_false : (a b d e : Bool) → (a ≡ false) ⊎ ((b ≡ true) ⊎ ((d ≡ true) ⊎ (e ≡ false))) → parts_by a b d e ≡ false
  third_false false b d e h = refl
  third_false true true d e h = refl
  third_false true false true e h = refl
  third_false true false false false h = refl
  third_false true false false true (inl h) = cc
  third_false true false false true (inr (inl h)) = cc
  third_false true false false true (inr (inr (inl h))) = cc
  third_false true false false true (inr (inr (inr h))) = cc

  no_parts : (nat_le 16 (length bytes) ≡ false) ⊎ (((len_of_buckets == 0) ≡ true) ⊎ (((len_of_bloom == 0) ≡ true) ⊎ (nat_le (gnu_chains_at c order bytes) (length bytes) ≡ false)))
      → has_parts c order bytes ≡ false
  unfolding has_parts
  no_parts h = third_false (nat_le 16 (length bytes)) (len_of_buckets == 0) (len_of_bloom == 0) (nat_le (gnu_chains_at c order bytes) (length bytes)) h

  pub parts_short : length bytes < 16 → has_parts c order bytes ≡ false
  parts_short short = no_parts (inl (lt-leb 16 (length bytes) short))

  pub parts_no_bucket : number_at order bytes 0 4 ≡ 0 → has_parts c order bytes ≡ false
  parts_no_bucket none = no_parts (inr (inl (eq-eqb len_of_buckets 0 (buckets_len ∙ none))))

  pub parts_no_bloom : number_at order bytes 8 4 ≡ 0 → has_parts c order bytes ≡ false
  parts_no_bloom none = no_parts (inr (inr (inl (eq-eqb len_of_bloom 0 (bloom_len ∙ none)))))

  abbrev end_of_parts : ℕ
  end_of_parts = 16 + bloom_bytes c * number_at order bytes 8 4 + 4 * number_at order bytes 0 4

  end_is : gnu_chains_at c order bytes ≡ end_of_parts
  unfolding gnu_chains_at gnu_head
  end_is = refl

  pub parts_no_room : length bytes < end_of_parts → has_parts c order bytes ≡ false
  parts_no_room short = no_parts (inr (inr (inr (lt-leb (gnu_chains_at c order bytes) (length bytes) (omega (arith, end_is, short))))))

  all_true : (a b d e : Bool) → a ≡ true → b ≡ false → d ≡ false → e ≡ true → parts_by a b d e ≡ true
  all_true true false false true h k l m = refl
  all_true false b d e h k l m = cc
  all_true true true d e h k l m = cc
  all_true true false true e h k l m = cc
  all_true true false false false h k l m = cc

  pub parts_there : 16 ≤ length bytes → 0 < number_at order bytes 0 4 → 0 < number_at order bytes 8 4 → end_of_parts ≤ length bytes → has_parts c order bytes ≡ true
  unfolding has_parts
  parts_there long bucket bloom room =
      all_true (nat_le 16 (length bytes)) (len_of_buckets == 0) (len_of_bloom == 0) (nat_le (gnu_chains_at c order bytes) (length bytes))
      (le-leb 16 (length bytes) long) (ne_eqb len_of_buckets 0 (λ none. omega (arith, bucket, buckets_len, none))) (ne_eqb len_of_bloom 0 (λ none. omega (arith, bloom, bloom_len, none)))
      (le-leb (gnu_chains_at c order bytes) (length bytes) (omega (arith, end_is, room)))

  abbrev section_at : ℕ → ℕ → ℕ → ℕ → ℕ → ℕ → GnuHash
  section_at n nb so sz sh ch = gnu_section_of (record { class = c; order = order; count = n; nbuckets = nb; symoffset = so; size = sz; shift = sh; chains = ch }) bytes

  -- the numbers of a table are those at the beginning
  pub table_is : (n nbuckets symoffset size shift chains : ℕ) → nbuckets ≡ number_at order bytes 0 4 → symoffset ≡ number_at order bytes 4 4 → size ≡ number_at order bytes 8 4
      → shift ≡ number_at order bytes 12 4 → 16 ≤ length bytes → 0 < nbuckets → 0 < size → chains ≡ 16 + bloom_bytes c * size + 4 * nbuckets → chains ≤ length bytes
      → IsGnuTable c order bytes n (record { class = c; order = order; count = n; nbuckets = nbuckets; symoffset = symoffset; size = size; shift = shift; chains = chains })
  unfolding gnu_section_of gnu_in gnu_head gnu_chains_at
  table_is n nbuckets symoffset size shift chains b o z s long bucket bloom at room = record {
    parts = parts_there long (omega (arith, b, bucket)) (omega (arith, z, bloom)) (subst (λ (k : ℕ). k ≤ length bytes) at_end room);
    section = section_is;
    class = refl;
    count = refl;
  }
    where
      at_end : chains ≡ end_of_parts
      at_end = at ∙ ap (λ (k : ℕ). 16 + bloom_bytes c * k + 4 * nbuckets) z ∙ ap (λ (k : ℕ). 16 + bloom_bytes c * number_at order bytes 8 4 + 4 * k) b

      section_is : section_at n nbuckets symoffset size shift chains ≡ gnu_in c order bytes
      section_is =
          ap (λ (k : ℕ). section_at n k symoffset size shift chains) b
          ∙ ap (λ (k : ℕ). section_at n (number_at order bytes 0 4) k size shift chains) o
          ∙ ap (λ (k : ℕ). section_at n (number_at order bytes 0 4) (number_at order bytes 4 4) k shift chains) z
          ∙ ap (λ (k : ℕ). section_at n (number_at order bytes 0 4) (number_at order bytes 4 4) (number_at order bytes 8 4) k chains) s
          ∙ ap (λ (k : ℕ). section_at n (number_at order bytes 0 4) (number_at order bytes 4 4) (number_at order bytes 8 4) (number_at order bytes 12 4) k) at_end

pub ruleset table_rules = (parts_short, parts_no_bucket, parts_no_bloom, parts_no_room, table_is)
