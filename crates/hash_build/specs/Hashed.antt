-- Hash sections by the hashes of the symbols alone: each name is hashed once, and what is built is
-- worked out of the hashes (gABI chapter 5, "Hash Table").
use Rattle.std.specs.Prelude.{ℕ, ◌%◌, List, length, map, slice_set, slice_index_or, Option, Some, None}
use Rattle.std.specs.Option.{option_map}
use Rattle.std.specs.List.{range_with_len}
use Rattle.std.proofs.Math.ListN.{replicate}
use Rattle.symbol_lookup.specs.elf_object.Object.{Object}
use Rattle.symbol_lookup.specs.hash_model.Hashes.{elf_hash, gnu_hash}
use Rattle.symbol_lookup.specs.hash_model.Listed.{listed_names}
use Rattle.symbol_lookup.specs.hash_model.HashSections.{SysvHash}
use Rattle.symbol_lookup.specs.hash_model.BuiltHashes.{first_in, next_in}
use Rattle.hash_build.specs.declared.hashing.Hashing.{Hashing}
use Rattle.hash_build.specs.declared.hashing.Hashing.TheVariants.{Sysv, Gnu}

-- the hash of a name by the kind of the section
abbrev pub hash_with : Hashing → List ℕ → ℕ
hash_with Sysv name = elf_hash name
hash_with Gnu name = gnu_hash name

-- for each symbol of a table its hash where it is listed
unfoldable pub listed_hashes : Hashing → Object → ℕ → List (Option ℕ)
listed_hashes by o s = map (option_map (hash_with by)) (listed_names o s)

-- the bucket of each symbol that is listed, among so many
unfoldable pub buckets_by : ℕ → List (Option ℕ) → List (Option ℕ)
buckets_by count hashes = map (option_map (λ hash. hash % count)) hashes

-- ---- SHT_HASH

-- the section with so many buckets
unfoldable pub sysv_of : ℕ → List (Option ℕ) → SysvHash
sysv_of count hashes =
    let buckets = buckets_by count hashes in
    record {
      buckets = map (first_in buckets) (range_with_len 0 count);
      chains = map (next_in buckets) (range_with_len 0 (length hashes));
    }

abbrev pub zeros_of : ℕ → List ℕ
zeros_of count = replicate count 0

-- a symbol that is put before those of its bucket that stand behind it: it is the first, and the
-- one that was the first comes next
abbrev pub first_set : List ℕ → Option ℕ → ℕ → List ℕ
first_set buckets None i = buckets
first_set buckets (Some bucket) i = slice_set buckets bucket i

abbrev pub next_set : List ℕ → List ℕ → Option ℕ → ℕ → List ℕ
next_set chains buckets None i = chains
next_set chains buckets (Some bucket) i = slice_set chains i (slice_index_or buckets bucket 0)
