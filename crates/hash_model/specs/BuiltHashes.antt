-- The hash sections of a symbol table, built anew (gABI chapter 5, "Hash Table"; GNU's hash
-- section).
use Rattle.std.specs.Prelude.{ℕ, ◌+◌, ◌-◌, ◌*◌, ◌/◌, ◌%◌, ◌^◌, Bool, true, false, not, ◌==◌, ◌&&◌, ◌||◌, nat_lt, nat_le, List, [], ◌∷◌, length, map, filter, slice_index_or, if◌then◌else◌, Option, Some, None, is_none, Result}
use Rattle.std.specs.List.{range_with_len, list_any, sum, position}
use Rattle.std.specs.Option.{option_map}
use Rattle.elf_types.specs.Answers.{refused_if, first_refusal, answered}
use Rattle.elf_types.specs.declared.records.Class.{Class}
use Rattle.elf_types.specs.declared.records.Kind.TheVariants as kinds
use Rattle.elf_types.specs.declared.errors.ElfError.{ElfError}
use Rattle.elf_types.specs.declared.errors.ElfError.TheVariants.{TooMany, Unsorted}
use Rattle.elf_object.specs.elf_layout.Meeting.{sorted_by}
use Rattle.elf_object.specs.Object.{Object}
use Rattle.elf_object.specs.Answers.{lend_refusal, count_at}
use Rattle.hash_model.specs.Hashes.{elf_hash, gnu_hash}
use Rattle.elf_object.specs.Sections.{first_of, number_or_0}
use Rattle.hash_model.specs.Listed.{listed_names}
use Rattle.hash_model.specs.HashSections.{SysvHash, sysv_words, GnuHash, gnu_bytes, bloom_bits}

-- ---- Buckets

-- the bucket of each listed symbol; the others have none
unfoldable pub buckets_of : (List ℕ → ℕ) → ℕ → List (Option (List ℕ)) → List (Option ℕ)
buckets_of hash count names = map (option_map (λ name. hash name % count)) names

abbrev pub is_in : ℕ → Option ℕ → Bool
is_in bucket None = false
is_in bucket (Some b) = b == bucket

-- the symbols in a bucket, ascending
unfoldable pub in_bucket : List (Option ℕ) → ℕ → List ℕ
in_bucket buckets bucket =
    filter (λ i. is_in bucket (slice_index_or buckets i None)) (range_with_len 0 (length buckets))

-- the first symbol of a bucket, or 0
abbrev pub first_in : List (Option ℕ) → ℕ → ℕ
first_in buckets bucket = slice_index_or (in_bucket buckets bucket) 0 0

-- ---- SHT_HASH

-- the next symbol of the same bucket, or 0
unfoldable pub next_in : List (Option ℕ) → ℕ → ℕ
next_in buckets i = elim (slice_index_or buckets i None) [
  | None ↦ 0
  | Some bucket ↦ number_or_0 (first_of (λ later. nat_lt i later) (in_bucket buckets bucket))
]

-- with so many buckets; the chain of each has its symbols in ascending order
unfoldable pub sysv_built : ℕ → List (Option (List ℕ)) → SysvHash
sysv_built count names =
    let buckets = buckets_of elf_hash count names in
    record {
      buckets = map (first_in buckets) (range_with_len 0 count);
      chains = map (next_in buckets) (range_with_len 0 (length names));
    }

-- ---- GNU's hash section

-- its number of buckets, its number of bloom words, and the shift of the bloom's second bit
pub record GnuShape : Type 0 where
  pub nbuckets : ℕ
  pub bloom : ℕ
  pub shift : ℕ

-- symbols that are not listed come first, and then the listed ones by bucket
abbrev pub order_key : Option ℕ → ℕ
order_key None = 0
order_key (Some bucket) = bucket + 1

-- the old indexes in the order that the section needs; those of one key stay in their order
unfoldable pub gnu_order_of : ℕ → List (Option (List ℕ)) → List ℕ
gnu_order_of nbuckets names =
    let buckets = buckets_of gnu_hash nbuckets names in
    sorted_by (λ i. order_key (slice_index_or buckets i None)) (range_with_len 0 (length names))

abbrev pub is_unsorted_after : Option ℕ → Option ℕ → Bool
is_unsorted_after None next = false
is_unsorted_after (Some bucket) None = true
is_unsorted_after (Some bucket) (Some next) = nat_lt next bucket

-- the first symbol that is not listed after a listed one, or whose bucket is below its
-- predecessor's
unfoldable pub first_unsorted : List (Option ℕ) → Option ℕ
first_unsorted buckets = first_of
    (λ i. is_unsorted_after (slice_index_or buckets (i - 1) None) (slice_index_or buckets i None))
    (range_with_len 1 (length buckets - 1))

-- the hashes of the listed symbols
unfoldable pub hashes_of : List (Option (List ℕ)) → List (Option ℕ)
hashes_of names = map (option_map gnu_hash) names

-- one of the hash's two bits in the bloom is this bit of this word
abbrev pub sets_bit : Class → GnuShape → ℕ → ℕ → Option ℕ → Bool
sets_bit class shape word bit None = false
sets_bit class shape word bit (Some hash) =
    hash / bloom_bits class % shape.bloom == word
    && (hash % bloom_bits class == bit || hash / 2 ^ shape.shift % bloom_bits class == bit)

-- a word of the bloom has just the bits of the listed symbols
unfoldable pub bloom_word : Class → GnuShape → List (Option ℕ) → ℕ → ℕ
bloom_word class shape hashes word = sum
    (map
    (λ bit. if list_any (sets_bit class shape word bit) hashes then 2 ^ bit else 0)
    (range_with_len 0 (bloom_bits class)))

-- the last symbol of a chain: the next one has another bucket, or there is none
abbrev pub ends_chain : List (Option ℕ) → ℕ → Bool
ends_chain buckets i = elim (slice_index_or buckets i None) [
  | None ↦ true
  | Some bucket ↦ not (is_in bucket (slice_index_or buckets (i + 1) None))
]

-- the hash, with its low bit as the end mark
unfoldable pub chain_word : List (Option ℕ) → List (Option ℕ) → ℕ → ℕ
chain_word hashes buckets i =
    number_or_0 (slice_index_or hashes i None) / 2 * 2 + (if ends_chain buckets i then 1 else 0)

-- the first listed symbol, or the number of symbols
unfoldable pub first_listed : List (Option (List ℕ)) → ℕ
first_listed names =
    elim (position (λ name. not (is_none name)) names) [ None ↦ length names | Some i ↦ i ]

unfoldable pub gnu_built : Class → GnuShape → List (Option (List ℕ)) → GnuHash
gnu_built class shape names =
    let hashes = hashes_of names in
    let buckets = buckets_of gnu_hash shape.nbuckets names in
    let symoffset = first_listed names in
    record {
      symoffset = symoffset;
      shift = shape.shift;
      bloom = map (bloom_word class shape hashes) (range_with_len 0 shape.bloom);
      buckets = map (first_in buckets) (range_with_len 0 shape.nbuckets);
      chains =
          map (chain_word hashes buckets) (range_with_len symoffset (length names - symoffset));
    }

-- ---- The calls, on piece 0 of a symbol table

-- a section's words do not hold the number of the symbols
unfoldable pub hash_refusal : Object → ℕ → Option ElfError
hash_refusal o s =
    first_refusal
    (lend_refusal o kinds.Sym s 0
    ∷ refused_if (nat_le (2 ^ 32) (count_at o s 0)) TooMany
    ∷ [])

unfoldable pub build_sysv_answer : Object → ℕ → ℕ → Result (List ℕ) ElfError
build_sysv_answer o s nbucket =
    answered (hash_refusal o s) (sysv_words (sysv_built nbucket (listed_names o s)))

unfoldable pub gnu_order_answer : Object → ℕ → ℕ → Result (List ℕ) ElfError
gnu_order_answer o s nbuckets =
    answered (hash_refusal o s) (gnu_order_of nbuckets (listed_names o s))

unfoldable pub unsorted : Object → ℕ → ℕ → Option ElfError
unsorted o s nbuckets =
    option_map Unsorted (first_unsorted (buckets_of gnu_hash nbuckets (listed_names o s)))

unfoldable pub build_gnu_answer : Object → ℕ → GnuShape → Result (List ℕ) ElfError
build_gnu_answer o s shape = answered
    (first_refusal (hash_refusal o s ∷ unsorted o s shape.nbuckets ∷ []))
    (gnu_bytes o.header.class o.header.order (gnu_built o.header.class shape (listed_names o s)))
