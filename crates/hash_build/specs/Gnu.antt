-- GNU's hash section by the hashes of the symbols alone.
use Rattle.std.specs.Prelude.{◌≡◌, ℕ, ◌-◌, ◌<◌, not, Bool, true, List, length, map, slice_index_or, if◌then◌else◌, is_none, Option, Some, None, Result}
use Rattle.std.specs.Option.{option_map}
use Rattle.std.specs.Int.{bit_at}
use Rattle.std.specs.List.{range_with_len, list_any, position}
use Rattle.elf_types.specs.Answers.{answered}
use Rattle.elf_types.specs.declared.records.Class.{Class}
use Rattle.elf_types.specs.declared.records.Order.{Order}
use Rattle.elf_types.specs.declared.errors.ElfError.{ElfError}
use Rattle.elf_types.specs.declared.errors.ElfError.TheVariants.{Unsorted}
use Rattle.symbol_lookup.specs.hash_model.HashSections.{GnuHash, gnu_bytes}
use Rattle.symbol_lookup.specs.hash_model.BuiltHashes as rules
use Rattle.symbol_lookup.specs.hash_model.BuiltHashes.{bloom_word, chain_word, first_in, first_unsorted, sets_bit}
use Rattle.hash_build.specs.declared.shape.GnuShape.{GnuShape}
use Rattle.hash_build.specs.Hashed.{buckets_by}
use Rattle.hash_build.specs.Calls.{stated}

-- the first symbol that is listed, or the number of symbols
unfoldable pub first_hashed : List (Option ℕ) → ℕ
first_hashed hashes =
    elim (position (λ h. not (is_none h)) hashes) [ None ↦ length hashes | Some i ↦ i ]

-- ---- The bloom

-- a word with a bit more
pub record HasBitMore (old new bit : ℕ) : Type 0 where
  pub same : bit_at new bit ≡ 1
  pub others : (i : ℕ) → (i ≡ bit → ⊥) → bit_at new i ≡ bit_at old i

-- words with both bits of a hash more
pub record HasHashMore (class : Class) (shape : GnuShape) (old new : List ℕ) (hash : Option ℕ)
    : Type 0 where
  pub long : length new ≡ length old
  pub bits : (word bit : ℕ) → word < shape.bloom
      → bit_at (slice_index_or new word 0) bit
      ≡ (if sets_bit class (stated shape) word bit hash then 1
      else bit_at (slice_index_or old word 0) bit)

-- words with the bits of hashes and no others
pub record HasHashes (class : Class) (shape : GnuShape) (words : List ℕ)
    (hashes : List (Option ℕ)) : Type 0 where
  pub long : length words ≡ shape.bloom
  pub bits : (word bit : ℕ) → word < shape.bloom
      → bit_at (slice_index_or words word 0) bit
      ≡ (if list_any (sets_bit class (stated shape) word bit) hashes then 1 else 0)

-- the words of the bloom
unfoldable pub bloom_of : Class → GnuShape → List (Option ℕ) → List ℕ
bloom_of class shape hashes =
    map (bloom_word class (stated shape) hashes) (range_with_len 0 shape.bloom)

-- ---- The section

-- the last symbol of its chain, by its bucket and that of the next symbol
abbrev pub ends_before : Option ℕ → Option ℕ → Bool
ends_before None next = true
ends_before (Some bucket) next = not (rules.is_in bucket next)

-- the first symbol of each bucket
unfoldable pub firsts_of : ℕ → List (Option ℕ) → List ℕ
firsts_of nbuckets hashes =
    map (first_in (buckets_by nbuckets hashes)) (range_with_len 0 nbuckets)

-- the chain words of the symbols from one on
unfoldable pub chains_from : ℕ → ℕ → List (Option ℕ) → List ℕ
chains_from from nbuckets hashes =
    map
    (chain_word hashes (buckets_by nbuckets hashes))
    (range_with_len from (length hashes - from))

unfoldable pub gnu_of : Class → GnuShape → List (Option ℕ) → GnuHash
gnu_of class shape hashes =
    record {
      symoffset = first_hashed hashes;
      shift = shape.shift;
      bloom = bloom_of class shape hashes;
      buckets = firsts_of shape.nbuckets hashes;
      chains = chains_from (first_hashed hashes) shape.nbuckets hashes;
    }

-- the section, where the symbols stand in the order that it needs
unfoldable pub gnu_answer : Class → Order → GnuShape → List (Option ℕ) → Result (List ℕ) ElfError
gnu_answer class order shape hashes =
    answered
    (option_map Unsorted (first_unsorted (buckets_by shape.nbuckets hashes)))
    (gnu_bytes class order (gnu_of class shape hashes))
