-- The symbols of a table as they are sorted for GNU's hash section.
use Rattle.std.specs.Prelude.{◌≡◌, ℕ, ◌<◌, nat_eq, List, length, map, slice_index_or, Option, None}
use Rattle.std.specs.List.{range_with_len, count_by}
use Rattle.elf_layout.specs.Meeting.{sorted_by}
use Rattle.symbol_lookup.specs.hash_model.BuiltHashes.{order_key}
use Rattle.hash_build.specs.declared.order.Row.{Row}

-- a symbol by its bucket and its index
abbrev pub row_at : List (Option ℕ) → ℕ → Row
row_at buckets i = record { key = order_key (slice_index_or buckets i None); index = i }

-- each symbol
unfoldable pub bucket_rows : List (Option ℕ) → List Row
bucket_rows buckets = map (row_at buckets) (range_with_len 0 (length buckets))

-- the same by their keys, and those of one key in their order
unfoldable pub sorted_rows : List (Option ℕ) → List Row
sorted_rows buckets = sorted_by (λ r. r.key) (bucket_rows buckets)

-- their indexes in that order
unfoldable pub order_by : List (Option ℕ) → List ℕ
order_by buckets =
    sorted_by (λ i. order_key (slice_index_or buckets i None)) (range_with_len 0 (length buckets))

-- an order of so many symbols: each index once, and the zero symbol first
pub record IsOrder (order : List ℕ) (count : ℕ) : Type 0 where
  pub long : length order ≡ count
  pub once : (i : ℕ) → i < count → count_by (nat_eq i) order ≡ 1
  pub below : (k : ℕ) → k < count → slice_index_or order k 0 < count
  pub begins : slice_index_or order 0 0 ≡ 0
