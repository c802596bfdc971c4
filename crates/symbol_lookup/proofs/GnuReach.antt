-- In GNU's hash section that is whole, a walk goes over the chain of its bucket.
use Rattle.std.proofs.Common.{◌≡◌, ℕ, zero, suc, ◌+◌, ◌-◌, ◌*◌, ◌/◌, ◌%◌, ◌^◌, ◌<◌, ◌≤◌, zero-add, add-one, Bool, true, false, eqb, List, [], ◌∷◌, length, get_or, Option, Some, None, Result, Ok, Err, refl, sym, ap, ◌∙◌, subst, inl, inr, arith}
use Rattle.std.specs.Prelude.{◌==◌, ◌⊎◌, ◌&&◌, ◌||◌, not, map, nat_lt, nat_le, slice_get, if◌then◌else◌}
use Rattle.std.specs.Option.{option_map}
use Rattle.std.specs.List.{list_any}
use Rattle.std.proofs.Math.Nat.{mul-le-mul_left}
use Rattle.std.proofs.lemmas.Bool.{leb-true, le-leb, le-ltb, ne_eqb, eqb-true, eq-eqb, and_parts, and_left, and_right, not_from_true, or_left, or_right}
use Rattle.std.proofs.lemmas.Option.{slice_get_within, get_or_from_slice_get}
use Rattle.std.proofs.lemmas.List.FromFn.{length-map-range_with_len, get_or-map-range_with_len}
use Rattle.elf_types.specs.Answers.{◌>>=◌}
use Rattle.elf_types.specs.declared.records.Class.{Class}
use Rattle.elf_types.specs.declared.records.Order.{Order}
use Rattle.elf_types.specs.declared.errors.ElfError.{ElfError}
use Rattle.elf_types.specs.declared.errors.ElfError.TheVariants.{BadChain}
use Rattle.hash_model.specs.elf_xlate.Numbers.{number_at}
use Rattle.hash_model.specs.elf_object.Words.{result_map}
use Rattle.hash_model.specs.Hashes.{gnu_hash}
use Rattle.hash_model.specs.HashSections.{GnuHash, bloom_bits, bloom_bytes, numbers_at, gnu_head, gnu_chains_at, gnu_in, has_bit, passes, gnu_word, is_end, gnu_chain, gnu_chain_from, is_on_with, is_found_gnu, is_whole_gnu, ends}
use Rattle.hash_model.specs.elf_object.Sections.{is_among}
use Rattle.symbol_lookup.specs.declared.walks.WalkStep.{WalkStep}
use Rattle.symbol_lookup.specs.declared.walks.WalkStart.{WalkStart}
use Rattle.symbol_lookup.specs.declared.walks.GnuHead.{GnuHead}
use Rattle.symbol_lookup.specs.declared.walks.Links.TheVariants as links
use Rattle.symbol_lookup.specs.Walks.{hash_number_in, nonzero_count, hash_count_in, gnu_head_in, nowhere, bloom_at, has_bits, buckets_at, chains_at, first_from, bucket_in, behind_head, gnu_start, gnu_next, walk_from}
use Rattle.symbol_lookup.proofs.LeastLaws.{listed_at, all_at, all_six}
use Rattle.symbol_lookup.proofs.SysvReach.{walked, walk_ends, positive, ended}

when_some : {A : Type 0} (b : Bool) (x : Option A) (y : A) → (if b then x else None) ≡ Some y → (b ≡ true) × (x ≡ Some y)
when_some true x y is = (refl, is)
when_some false x y is = cc

-- a first symbol that the section knows, or that is none
not_lost : (first symoffset : ℕ) → (first ≡ 0) ⊎ (symoffset ≤ first) → (not (first == 0) && nat_lt first symoffset) ≡ false
not_lost first symoffset (inl none) = and_left _ _ (not_from_true _ (eq-eqb first 0 none))
not_lost first symoffset (inr known) = and_right _ _ (le-ltb first symoffset known)

-- the last of places of a width lies before their end
places_within : (width k n : ℕ) → k < n → width * k + width ≤ width * n
places_within width k n below = omega (arith, mul-le-mul_left {m = k + 1} {n = n} width (omega arith))

-- the symbols of a chain
abbrev pub symbols_of : List (ℕ × ℕ) → List ℕ
symbols_of rows = map (λ row. row.0) rows

-- one that is on a chain, with whatever chain word, is among its symbols
pub on_chain : (k hash : ℕ) (rows : List (ℕ × ℕ)) → is_on_with k hash (Some rows) ≡ true → is_among (symbols_of rows) k ≡ true
unfolding is_among
on_chain k hash [] is = cc
on_chain k hash ((i, word) ∷ rows) is = by_here (i == k) refl is (λ later. on_chain k hash rows later)
  where
    by_here : (here : Bool) → (i == k) ≡ here → ((here && word / 2 == hash / 2) || list_any (λ row. row.0 == k && row.1 / 2 == hash / 2) rows) ≡ true
        → (list_any (λ row. row.0 == k && row.1 / 2 == hash / 2) rows ≡ true → is_among (symbols_of rows) k ≡ true)
        → is_among (i ∷ symbols_of rows) k ≡ true
    by_here true same is later = or_left (eqb k i) (is_among (symbols_of rows) k) (eq-eqb k i (sym (eqb-true i k same)))
    by_here false other is later = or_right (eqb k i) (is_among (symbols_of rows) k) (later is)

module _ (class : Class) (order : Order) (bytes : List ℕ) where
  -- ---- Numbers

  abbrev number : ℕ → ℕ
  number at = number_at order bytes at 4

  abbrev pub head : GnuHead
  head = record { nbuckets = number 0; symoffset = number 4; size = number 8; shift = number 12 }

  number_there : (at width : ℕ) → at + width ≤ length bytes → hash_number_in order bytes at width ≡ Ok (number_at order bytes at width)
  unfolding hash_number_in
  number_there at width within =
      ap (λ (b : Bool). if b then Ok (number_at order bytes at width) else Err (BadChain at)) (le-leb (at + width) (length bytes) within)

  count_there : (at : ℕ) → at + 4 ≤ length bytes → 0 < number at → hash_count_in order bytes at ≡ Ok (number at)
  unfolding hash_count_in nonzero_count
  count_there at within some =
      ap (λ (r : Result ℕ ElfError). r >>= nonzero_count at) (number_there at 4 within)
      ∙ ap (λ (b : Bool). if b then Err (BadChain at) else Ok (number at)) (ne_eqb (number at) 0 (λ is. absurd (omega (arith, is, some))))

  at_numbers : (at width count i : ℕ) → i < count → get_or (numbers_at order bytes at width count) i 0 ≡ number_at order bytes (at + width * i) width
  at_numbers at width count i below = get_or-map-range_with_len (λ i. number_at order bytes (at + width * i) width) 0 count i i 0 below (zero-add i)

  many_numbers : (at width count : ℕ) → length (numbers_at order bytes at width count) ≡ count
  many_numbers at width count = length-map-range_with_len (λ i. number_at order bytes (at + width * i) width) 0 count

  -- ---- The beginning

  abbrev with_shift : ℕ → ℕ → ℕ → ℕ → Result GnuHead ElfError
  with_shift nbuckets symoffset size shift = Ok (record { nbuckets = nbuckets; symoffset = symoffset; size = size; shift = shift })

  abbrev with_size : ℕ → ℕ → ℕ → Result GnuHead ElfError
  with_size nbuckets symoffset size = hash_number_in order bytes 12 4 >>= with_shift nbuckets symoffset size

  abbrev with_symoffset : ℕ → ℕ → Result GnuHead ElfError
  with_symoffset nbuckets symoffset = hash_count_in order bytes 8 >>= with_size nbuckets symoffset

  abbrev with_nbuckets : ℕ → Result GnuHead ElfError
  with_nbuckets nbuckets = hash_number_in order bytes 4 4 >>= with_symoffset nbuckets

  head_is : 16 ≤ length bytes → 0 < number 0 → 0 < number 8 → gnu_head_in order bytes ≡ Ok head
  unfolding gnu_head_in
  head_is long buckets bloom =
      ap (λ (r : Result ℕ ElfError). r >>= with_nbuckets) (count_there 0 (omega (arith, long)) buckets)
      ∙ ap (λ (r : Result ℕ ElfError). r >>= with_symoffset (number 0)) (number_there 4 4 (omega (arith, long)))
      ∙ ap (λ (r : Result ℕ ElfError). r >>= with_size (number 0) (number 4)) (count_there 8 (omega (arith, long)) bloom)
      ∙ ap (λ (r : Result ℕ ElfError). r >>= with_shift (number 0) (number 4) (number 8)) (number_there 12 4 (omega (arith, long)))

  -- ---- Chains

  abbrev whole : GnuHash
  whole = gnu_in class order bytes

  abbrev chains : ℕ
  chains = chains_at class head

  -- the step from a symbol by its chain word
  abbrev step_by : ℕ → ℕ → WalkStep
  step_by i word = record { at = chains + 4 * (i - number 4); symbol = if is_end word then 0 else i + 1 }

  next_is : (count i word : ℕ) → gnu_word whole count i ≡ Some word
      → gnu_next order bytes (number 4) chains i ≡ Ok (step_by i word)
  unfolding gnu_next gnu_in gnu_head gnu_chains_at chains_at buckets_at
  next_is count i word is =
      let k : ℕ = i - number 4 in
      let many : ℕ = (length bytes - chains) / 4 in
      let there : slice_get (numbers_at order bytes chains 4 many) k ≡ Some word = (when_some (nat_le (number 4) i && nat_lt i count) (slice_get (numbers_at order bytes chains 4 many) k) word is).1 in
      let below : k < many = subst (λ (n : ℕ). k < n) (many_numbers chains 4 many) (slice_get_within _ k word there) in
      let within : chains + 4 * k + 4 ≤ length bytes = omega (arith, below) in
      let found : number (chains + 4 * k) ≡ word = sym (at_numbers chains 4 many k below) ∙ get_or_from_slice_get _ k word 0 there in
      ap (result_map (step_by i)) (number_there (chains + 4 * k) 4 within) ∙ ap (λ (word : ℕ). Ok (step_by i word)) found

  -- the section knows the symbols on its chains
  known : (count i word : ℕ) → gnu_word whole count i ≡ Some word → number 4 ≤ i
  unfolding gnu_in gnu_head
  known count i word is = leb-true (number 4) i (and_parts _ _ (when_some (nat_le (number 4) i && nat_lt i count) (slice_get whole.chains (i - number 4)) word is).0).0

  -- a chain that ends is what the walk goes over
  pub chain_walked : (count n at i : ℕ) (rows : List (ℕ × ℕ)) → gnu_chain whole count n (suc i) ≡ Some rows → walk_from (gnu_next order bytes (number 4) chains) n at (suc i) ≡ Ok (symbols_of rows)
  unfolding gnu_chain
  chain_walked count zero at i rows is = cc
  chain_walked count (suc n) at i rows is = by_word (gnu_word whole count (suc i)) refl is (λ at rows later. chain_walked count n at (suc i) rows later)
    where
      by_end : (word : ℕ) → gnu_word whole count (suc i) ≡ Some word → (last : Bool) → is_end word ≡ last
          → ◌≡◌ {A = Option (List (ℕ × ℕ))} (elim last [ true ↦ Some ((suc i, word) ∷ []) | false ↦ option_map (λ later. (suc i, word) ∷ later) (gnu_chain whole count n (suc i + 1)) ]) (Some rows)
          → ((at : ℕ) (rows : List (ℕ × ℕ)) → gnu_chain whole count n (suc (suc i)) ≡ Some rows → walk_from (gnu_next order bytes (number 4) chains) n at (suc (suc i)) ≡ Ok (symbols_of rows))
          → walk_from (gnu_next order bytes (number 4) chains) (suc n) at (suc i) ≡ Ok (symbols_of rows)
      by_end word there true last is on =
          walked (gnu_next order bytes (number 4) chains) n at i (step_by (suc i) word) [] (next_is count (suc i) word there)
          (walk_ends (gnu_next order bytes (number 4) chains) n (step_by (suc i) word).at (step_by (suc i) word).symbol (ap (λ (b : Bool). if b then 0 else suc i + 1) last))
          ∙ ap (λ (l : List (ℕ × ℕ)). Ok (symbols_of l)) (let same : (suc i, word) ∷ [] ≡ rows = cc in same)
      by_end word there false last is on = by_later (gnu_chain whole count n (suc i + 1)) refl is
        where
          by_later : (rest : Option (List (ℕ × ℕ))) → gnu_chain whole count n (suc i + 1) ≡ rest → option_map (λ later. (suc i, word) ∷ later) rest ≡ Some rows
              → walk_from (gnu_next order bytes (number 4) chains) (suc n) at (suc i) ≡ Ok (symbols_of rows)
          by_later None known is = cc
          by_later (Some later) known is =
              let next : (step_by (suc i) word).symbol ≡ suc (suc i) = ap (λ (b : Bool). if b then 0 else suc i + 1) last ∙ add-one (suc i) in
              walked (gnu_next order bytes (number 4) chains) n at i (step_by (suc i) word) (symbols_of later) (next_is count (suc i) word there)
              (ap (walk_from (gnu_next order bytes (number 4) chains) n (step_by (suc i) word).at) next ∙ on (step_by (suc i) word).at later (ap (gnu_chain whole count n) (sym (add-one (suc i))) ∙ known))
              ∙ ap (λ (l : List (ℕ × ℕ)). Ok (symbols_of l)) (let same : (suc i, word) ∷ later ≡ rows = cc in same)

      by_word : (there : Option ℕ) → gnu_word whole count (suc i) ≡ there
          → ◌≡◌ {A = Option (List (ℕ × ℕ))} (elim there [ None ↦ None | Some word ↦ elim (is_end word) [ true ↦ Some ((suc i, word) ∷ []) | false ↦ option_map (λ later. (suc i, word) ∷ later) (gnu_chain whole count n (suc i + 1)) ] ]) (Some rows)
          → ((at : ℕ) (rows : List (ℕ × ℕ)) → gnu_chain whole count n (suc (suc i)) ≡ Some rows → walk_from (gnu_next order bytes (number 4) chains) n at (suc (suc i)) ≡ Ok (symbols_of rows))
          → walk_from (gnu_next order bytes (number 4) chains) (suc n) at (suc i) ≡ Ok (symbols_of rows)
      by_word None known is on = cc
      by_word (Some word) known is on = by_end word known (is_end word) refl is on

  pub chain_from_walked : (count at first : ℕ) (rows : List (ℕ × ℕ)) → gnu_chain_from whole count first ≡ Some rows → walk_from (gnu_next order bytes (number 4) chains) count at first ≡ Ok (symbols_of rows)
  unfolding gnu_chain_from walk_from
  chain_from_walked count at zero rows is = let none : [] ≡ rows = cc in ap (λ (l : List (ℕ × ℕ)). Ok (symbols_of l)) none
  chain_from_walked count at (suc i) rows is = chain_walked count count at i rows is

  -- such a chain begins at no symbol, or at one that the section knows
  pub chain_starts : (count first : ℕ) (rows : List (ℕ × ℕ)) → gnu_chain_from whole count first ≡ Some rows → (first ≡ 0) ⊎ (number 4 ≤ first)
  unfolding gnu_chain_from gnu_chain
  chain_starts count zero rows is = inl refl
  chain_starts zero (suc i) rows is = cc
  chain_starts (suc n) (suc i) rows is = by_word (gnu_word whole (suc n) (suc i)) refl is
    where
      by_word : (there : Option ℕ) → gnu_word whole (suc n) (suc i) ≡ there
          → ◌≡◌ {A = Option (List (ℕ × ℕ))} (elim there [ None ↦ None | Some word ↦ elim (is_end word) [ true ↦ Some ((suc i, word) ∷ []) | false ↦ option_map (λ later. (suc i, word) ∷ later) (gnu_chain whole (suc n) n (suc i + 1)) ] ]) (Some rows)
          → (suc i ≡ 0) ⊎ (number 4 ≤ suc i)
      by_word None there is = cc
      by_word (Some word) there is = inr (known (suc n) (suc i) word there)

  -- ---- Where a walk begins

  abbrev pub bloom_word : ℕ → ℕ
  bloom_word hash = number_at order bytes (bloom_at class head hash) (bloom_bytes class)

  abbrev bucket_place : ℕ → ℕ
  bucket_place hash = buckets_at class head + 4 * (hash % number 0)

  abbrev pub first : ℕ → ℕ
  first hash = number (bucket_place hash)

  abbrev pub start : ℕ → WalkStart
  start hash = record { links = links.Gnu (number 4) chains; step = record { at = bucket_place hash; symbol = first hash } }

  passes_is : 0 < number 8 → (hash : ℕ) → passes class whole hash ≡ has_bits class head hash (bloom_word hash)
  unfolding passes gnu_in gnu_head has_bits bloom_at
  passes_is some hash =
      let place : ℕ = hash / bloom_bits class in
      let below : place % number 8 < number 8 = omega (arith, some) in
      ap (λ (w : ℕ). has_bit w (hash % bloom_bits class) && has_bit w (hash / 2 ^ number 12 % bloom_bits class))
      (ap (λ (n : ℕ). get_or (numbers_at order bytes 16 (bloom_bytes class) (number 8)) (hash / bloom_bits class % n) 0) (many_numbers 16 (bloom_bytes class) (number 8))
      ∙ at_numbers 16 (bloom_bytes class) (number 8) (hash / bloom_bits class % number 8) below)

  bucket_is : 0 < number 0 → (hash : ℕ) → get_or whole.buckets (hash % length whole.buckets) 0 ≡ first hash
  unfolding gnu_in gnu_head buckets_at
  bucket_is some hash =
      ap (λ (n : ℕ). get_or (numbers_at order bytes (16 + bloom_bytes class * number 8) 4 (number 0)) (hash % n) 0) (many_numbers (16 + bloom_bytes class * number 8) 4 (number 0))
      ∙ at_numbers (16 + bloom_bytes class * number 8) 4 (number 0) (hash % number 0) (omega (arith, some))

  module _ (long : 16 ≤ length bytes) (buckets : 0 < number 0) (bloom : 0 < number 8) (there : chains ≤ length bytes) (hash : ℕ) where
    by_bloom : gnu_start class order bytes hash ≡ (if has_bits class head hash (bloom_word hash) then bucket_in class order bytes hash head else Ok nowhere)
    unfolding gnu_start behind_head bloom_at chains_at buckets_at
    by_bloom =
        let k : ℕ = hash / bloom_bits class % number 8 in
        let below : k < number 8 = omega (arith, bloom) in
        let row = places_within (bloom_bytes class) k (number 8) below in
        let within : 16 + bloom_bytes class * k + bloom_bytes class ≤ length bytes = omega (arith, row, there) in
        ap (λ (r : Result GnuHead ElfError). r >>= behind_head class order bytes hash) (head_is long buckets bloom)
        ∙ ap (λ (r : Result ℕ ElfError). r >>= (λ word. (if has_bits class head hash word then bucket_in class order bytes hash head else Ok nowhere))) (number_there (16 + bloom_bytes class * k) (bloom_bytes class) within)

    pub starts_nowhere : has_bits class head hash (bloom_word hash) ≡ false → gnu_start class order bytes hash ≡ Ok nowhere
    starts_nowhere fails = by_bloom ∙ ap (λ (b : Bool). if b then bucket_in class order bytes hash head else Ok nowhere) fails

    pub starts_there : has_bits class head hash (bloom_word hash) ≡ true → (first hash ≡ 0) ⊎ (number 4 ≤ first hash) → gnu_start class order bytes hash ≡ Ok (start hash)
    unfolding bucket_in first_from buckets_at chains_at
    starts_there passes known =
        let within : bucket_place hash + 4 ≤ length bytes = omega (arith, buckets, there) in
        by_bloom
        ∙ ap (λ (b : Bool). if b then bucket_in class order bytes hash head else Ok nowhere) passes
        ∙ ap (λ (r : Result ℕ ElfError). r >>= first_from class head (bucket_place hash)) (number_there (bucket_place hash) 4 within)
        ∙ ap (λ (b : Bool). if b then Err (BadChain (bucket_place hash)) else Ok (start hash)) (not_lost (first hash) (number 4) known)

-- ---- A whole section

whole_counts : (class : Class) (order : Order) (bytes : List ℕ)
    → (length (gnu_in class order bytes).buckets ≡ number_at order bytes 0 4)
    × (length (gnu_in class order bytes).bloom ≡ number_at order bytes 8 4)
    × (gnu_chains_at class order bytes ≡ chains_at class (head class order bytes))
unfolding gnu_in gnu_head gnu_chains_at chains_at buckets_at
whole_counts class order bytes = (
  many_numbers class order bytes (16 + bloom_bytes class * number_at order bytes 8 4) 4 (number_at order bytes 0 4),
  many_numbers class order bytes 16 (bloom_bytes class) (number_at order bytes 8 4),
  refl,
)

found_parts : (class : Class) (h : GnuHash) (count k : ℕ) (name : List ℕ) → is_found_gnu class h count k name ≡ true
    → (passes class h (gnu_hash name) ≡ true)
    × (is_on_with k (gnu_hash name) (gnu_chain_from h count (get_or h.buckets (gnu_hash name % length h.buckets) 0)) ≡ true)
unfolding is_found_gnu
found_parts class h count k name is = and_parts _ _ is

pub record IsWhole (class : Class) (order : Order) (bytes : List ℕ) (names : List (Option (List ℕ))) : Type 0 where
  pub long : 16 ≤ length bytes
  pub buckets : 0 < number_at order bytes 0 4
  pub bloom : 0 < number_at order bytes 8 4
  pub there : chains_at class (head class order bytes) ≤ length bytes
  pub chain : (hash : ℕ) → (rows : List (ℕ × ℕ)) × (gnu_chain_from (gnu_in class order bytes) (length names) (first class order bytes hash) ≡ Some rows)
  pub passes : (k : ℕ) (name : List ℕ) → k < length names → get_or names k None ≡ Some name
      → has_bits class (head class order bytes) (gnu_hash name) (bloom_word class order bytes (gnu_hash name)) ≡ true
  pub within : (k : ℕ) (name : List ℕ) → k < length names → get_or names k None ≡ Some name
      → is_on_with k (gnu_hash name) (gnu_chain_from (gnu_in class order bytes) (length names) (first class order bytes (gnu_hash name))) ≡ true

pub is_whole : (class : Class) (order : Order) (bytes : List ℕ) (names : List (Option (List ℕ))) → is_whole_gnu class order bytes names ≡ true → IsWhole class order bytes names
unfolding is_whole_gnu
is_whole class order bytes names is =
    let parts = all_six _ _ _ _ _ _ is in
    let h : GnuHash = gnu_in class order bytes in
    let counts = whole_counts class order bytes in
    let buckets : 0 < number_at order bytes 0 4 = subst (λ (n : ℕ). 0 < n) counts.0 (positive (length h.buckets) parts.1) in
    let bloom : 0 < number_at order bytes 8 4 = subst (λ (n : ℕ). 0 < n) counts.1 (positive (length h.bloom) parts.2) in
    let same : (hash : ℕ) → get_or h.buckets (hash % length h.buckets) 0 ≡ first class order bytes hash = bucket_is class order bytes buckets in
    let found : (k : ℕ) (name : List ℕ) → k < length names → get_or names k None ≡ Some name → is_found_gnu class h (length names) k name ≡ true =
    λ k name below at. listed_at (is_found_gnu class h (length names)) names parts.5 k name below at in
    record {
      long = leb-true 16 (length bytes) parts.0;
      buckets = buckets;
      bloom = bloom;
      there = subst (λ (n : ℕ). n ≤ length bytes) counts.2 (leb-true (gnu_chains_at class order bytes) (length bytes) parts.3);
      chain = λ hash.
          let some : 0 < length h.buckets = subst (λ (n : ℕ). 0 < n) (sym counts.0) buckets in
          ended _
          (ap (λ (n : ℕ). ends (gnu_chain_from h (length names) n)) (sym (same hash))
          ∙ all_at (λ first. ends (gnu_chain_from h (length names) first)) h.buckets parts.4 (hash % length h.buckets) 0 (omega (arith, some)));
      passes = λ k name below at.
          sym (passes_is class order bytes bloom (gnu_hash name)) ∙ (found_parts class h (length names) k name (found k name below at)).0;
      within = λ k name below at.
          ap (λ (n : ℕ). is_on_with k (gnu_hash name) (gnu_chain_from h (length names) n)) (sym (same (gnu_hash name)))
          ∙ (found_parts class h (length names) k name (found k name below at)).1;
    }
