-- Hash sections, and when one is whole: each listed symbol is found by its name, and every chain
-- ends (gABI chapter 5, "Hash Table"; GNU's hash section). The names are those of a symbol
-- table, each where its symbol is listed.
use Rattle.std.specs.Prelude.{ℕ, zero, suc, ◌+◌, ◌-◌, ◌*◌, ◌/◌, ◌%◌, ◌^◌, Bool, true, false, not, ◌==◌, ◌&&◌, nat_lt, nat_le, List, [], ◌∷◌, ◌++◌, length, take, drop, map, slice_get, slice_index_or, if◌then◌else◌, Option, Some, None}
use Rattle.std.specs.List.{range_with_len, enumerate_from, list_all, list_any, flat_map}
use Rattle.std.specs.Option.{option_map}
use Rattle.elf_types.specs.declared.records.Class.{Class}
use Rattle.elf_types.specs.declared.records.Class.TheVariants.{C32, C64}
use Rattle.elf_types.specs.declared.records.Order.{Order}
use Rattle.elf_object.specs.elf_xlate.Numbers.{number_at, octets}
use Rattle.hash_model.specs.Hashes.{elf_hash, gnu_hash}
use Rattle.elf_object.specs.Sections.{is_among}

-- each name is that of a symbol that is not listed, or passes
abbrev pub each_listed : (ℕ → List ℕ → Bool) → List (Option (List ℕ)) → Bool
each_listed test names =
    list_all
    (λ row. elim (row.1) [ None ↦ true | Some name ↦ test row.0 name ])
    (enumerate_from 0 names)

-- ---- SHT_HASH

-- its words: the number of buckets and that of chain entries, the buckets, the chain entries
pub record SysvHash : Type 0 where
  pub buckets : List ℕ
  pub chains : List ℕ

unfoldable pub sysv_words : SysvHash → List ℕ
sysv_words h = length h.buckets ∷ length h.chains ∷ (h.buckets ++ h.chains)

-- the section in such words
unfoldable pub sysv_in : List ℕ → SysvHash
sysv_in words =
    let nbucket = slice_index_or words 0 0 in
    record { buckets = take nbucket (drop 2 words); chains = drop (2 + nbucket) words }

-- the indexes on a chain from a symbol on, up to 0; none where it has not ended after so many,
-- or leaves the table
unfoldable pub sysv_chain : List ℕ → ℕ → ℕ → Option (List ℕ)
sysv_chain chains n zero = Some []
sysv_chain chains zero (suc i) = None
sysv_chain chains (suc n) (suc i) = elim (slice_get chains (suc i)) [
  | None ↦ None
  | Some next ↦ option_map (λ later. suc i ∷ later) (sysv_chain chains n next)
]

abbrev pub is_on : ℕ → Option (List ℕ) → Bool
is_on i None = false
is_on i (Some chain) = is_among chain i

abbrev pub ends : {A : Type 0} → Option A → Bool
ends None = false
ends (Some x) = true

-- the chain of a hash's bucket
unfoldable pub sysv_chain_of : SysvHash → ℕ → Option (List ℕ)
sysv_chain_of h hash =
    sysv_chain h.chains (length h.chains) (slice_index_or h.buckets (hash % length h.buckets) 0)

-- as many words as it says, as many chain entries as there are symbols, and chains with an end,
-- on which are the listed symbols
unfoldable pub is_whole_sysv : List ℕ → List (Option (List ℕ)) → Bool
is_whole_sysv words names =
    let h = sysv_in words in
    nat_le 2 (length words)
    && not (slice_index_or words 0 0 == 0)
    && slice_index_or words 1 0 == length names
    && length words == 2 + slice_index_or words 0 0 + slice_index_or words 1 0
    && list_all (λ first. ends (sysv_chain h.chains (length h.chains) first)) h.buckets
    && each_listed (λ i name. is_on i (sysv_chain_of h (elf_hash name))) names

-- ---- GNU's hash section

-- its parts: the first symbol that it knows, the shift of the bloom's second bit, the bloom's
-- words, the buckets, and a chain word for each symbol from the first one on
pub record GnuHash : Type 0 where
  pub symoffset : ℕ
  pub shift : ℕ
  pub bloom : List ℕ
  pub buckets : List ℕ
  pub chains : List ℕ

-- the bits of a bloom word
abbrev pub bloom_bits : Class → ℕ
bloom_bits C32 = 32
bloom_bits C64 = 64

abbrev pub bloom_bytes : Class → ℕ
bloom_bytes C32 = 4
bloom_bytes C64 = 8

-- numbers of a width
abbrev pub numbers_as : Order → ℕ → List ℕ → List ℕ
numbers_as order width numbers = flat_map (octets order width) numbers

unfoldable pub gnu_bytes : Class → Order → GnuHash → List ℕ
gnu_bytes class order h =
    numbers_as order 4 (length h.buckets ∷ h.symoffset ∷ length h.bloom ∷ h.shift ∷ [])
    ++ (numbers_as order (bloom_bytes class) h.bloom
    ++ (numbers_as order 4 h.buckets
    ++ numbers_as order 4 h.chains))

-- so many numbers of a width, from a place on
abbrev pub numbers_at : Order → List ℕ → ℕ → ℕ → ℕ → List ℕ
numbers_at order bytes at width count =
    map (λ i. number_at order bytes (at + width * i) width) (range_with_len 0 count)

-- the four numbers at its beginning
unfoldable pub gnu_head : Order → List ℕ → ℕ → ℕ
gnu_head order bytes i = number_at order bytes (4 * i) 4

-- the place after the buckets
unfoldable pub gnu_chains_at : Class → Order → List ℕ → ℕ
gnu_chains_at class order bytes =
    16 + bloom_bytes class * gnu_head order bytes 2 + 4 * gnu_head order bytes 0

-- the section in such bytes; it has the chain words that lie in them
unfoldable pub gnu_in : Class → Order → List ℕ → GnuHash
gnu_in class order bytes =
    let size = gnu_head order bytes 2 in
    let chains = gnu_chains_at class order bytes in
    record {
      symoffset = gnu_head order bytes 1;
      shift = gnu_head order bytes 3;
      bloom = numbers_at order bytes 16 (bloom_bytes class) size;
      buckets = numbers_at order bytes (16 + bloom_bytes class * size) 4 (gnu_head order bytes 0);
      chains = numbers_at order bytes chains 4 ((length bytes - chains) / 4);
    }

-- whether a bit of a number is set
abbrev pub has_bit : ℕ → ℕ → Bool
has_bit n bit = n / 2 ^ bit % 2 == 1

-- a hash passes the bloom where both of its bits are set in its word
unfoldable pub passes : Class → GnuHash → ℕ → Bool
passes class h hash =
    let word = slice_index_or h.bloom (hash / bloom_bits class % length h.bloom) 0 in
    has_bit word (hash % bloom_bits class) && has_bit word (hash / 2 ^ h.shift % bloom_bits class)

-- the chain word of a symbol that is there
abbrev pub gnu_word : GnuHash → ℕ → ℕ → Option ℕ
gnu_word h count i =
    if nat_le h.symoffset i && nat_lt i count then slice_get h.chains (i - h.symoffset) else None

-- a chain word ends its chain where its low bit is set
abbrev pub is_end : ℕ → Bool
is_end word = word % 2 == 1

-- the symbols on a chain from one on, with their chain words, up to the end mark; none where it
-- has not ended after so many, or leaves the table
unfoldable pub gnu_chain : GnuHash → ℕ → ℕ → ℕ → Option (List (ℕ × ℕ))
gnu_chain h count zero i = None
gnu_chain h count (suc n) i = elim (gnu_word h count i) [
  | None ↦ None
  | Some word ↦ elim (is_end word) [
    | true ↦ Some ((i, word) ∷ [])
    | false ↦ option_map (λ later. (i, word) ∷ later) (gnu_chain h count n (i + 1))
  ]
]

-- the chain of a bucket; 0 is none
unfoldable pub gnu_chain_from : GnuHash → ℕ → ℕ → Option (List (ℕ × ℕ))
gnu_chain_from h count zero = Some []
gnu_chain_from h count (suc first) = gnu_chain h count count (suc first)

-- a symbol with that hash but for the low bit
abbrev pub is_on_with : ℕ → ℕ → Option (List (ℕ × ℕ)) → Bool
is_on_with i hash None = false
is_on_with i hash (Some chain) = list_any (λ row. row.0 == i && row.1 / 2 == hash / 2) chain

unfoldable pub is_found_gnu : Class → GnuHash → ℕ → ℕ → List ℕ → Bool
is_found_gnu class h count i name =
    let hash = gnu_hash name in
    let first = slice_index_or h.buckets (hash % length h.buckets) 0 in
    passes class h hash && is_on_with i hash (gnu_chain_from h count first)

-- bloom and buckets lie in the section, the chains have an end, and the listed symbols pass the
-- bloom and are on them
unfoldable pub is_whole_gnu : Class → Order → List ℕ → List (Option (List ℕ)) → Bool
is_whole_gnu class order bytes names =
    let h = gnu_in class order bytes in
    nat_le 16 (length bytes)
    && not (length h.buckets == 0)
    && not (length h.bloom == 0)
    && nat_le (gnu_chains_at class order bytes) (length bytes)
    && list_all (λ first. ends (gnu_chain_from h (length names) first)) h.buckets
    && each_listed (is_found_gnu class h (length names)) names
