-- What the rule on GNU's hash sections works out of the bytes of one.
use Rattle.std.specs.Prelude.{◌≡◌, ℕ, ◌+◌, ◌-◌, ◌*◌, ◌/◌, ◌%◌, ◌<◌, ◌≤◌, ◌==◌, ◌&&◌, not, Bool, true, false, List, length, nat_le, slice_index_or, if◌then◌else◌, Option, Some, None}
use Rattle.elf_types.specs.declared.records.Class.{Class}
use Rattle.elf_types.specs.declared.records.Order.{Order}
use Rattle.std.specs.List.{list_all}
use Rattle.hash_model.specs.HashSections.{GnuHash, bloom_bytes, numbers_at, gnu_in, gnu_chains_at, gnu_chain_from, gnu_word, is_end, passes, ends, each_listed, is_found_gnu}
use Rattle.elf_lint_hashes.specs.declared.gnu.GnuTable.{GnuTable}

-- ---- The numbers at its beginning

-- it has a bucket and a bloom word at least, and all of them lie in it
unfoldable pub has_parts : Class → Order → List ℕ → Bool
has_parts class order bytes =
    let h = gnu_in class order bytes in
    nat_le 16 (length bytes)
    && not (length h.buckets == 0)
    && not (length h.bloom == 0)
    && nat_le (gnu_chains_at class order bytes) (length bytes)

-- the section in bytes that begin with the numbers of a table
unfoldable pub gnu_section_of : GnuTable → List ℕ → GnuHash
gnu_section_of t bytes = record {
  symoffset = t.symoffset;
  shift = t.shift;
  bloom = numbers_at t.order bytes 16 (bloom_bytes t.class) t.size;
  buckets = numbers_at t.order bytes (16 + bloom_bytes t.class * t.size) 4 t.nbuckets;
  chains = numbers_at t.order bytes t.chains 4 ((length bytes - t.chains) / 4);
}

-- a table whose bloom and buckets lie in so many bytes, and are not empty
pub record GnuTableFitsIn (len : ℕ) (t : GnuTable) : Type 0 where
  pub some : 0 < t.nbuckets
  pub bloom : 0 < t.size
  pub chains : t.chains ≡ 16 + bloom_bytes t.class * t.size + 4 * t.nbuckets
  pub within : t.chains ≤ len

-- the table is that of bytes
pub record IsGnuTable (c : Class) (order : Order) (bytes : List ℕ) (n : ℕ) (t : GnuTable)
    : Type 0 where
  pub parts : has_parts c order bytes ≡ true
  pub section : gnu_section_of t bytes ≡ gnu_in c order bytes
  pub class : t.class ≡ c
  pub count : t.count ≡ n

abbrev pub IsGnuTableIn : Class → Order → List ℕ → ℕ → Option GnuTable → Type 0
IsGnuTableIn class order bytes count None = has_parts class order bytes ≡ false
IsGnuTableIn class order bytes count (Some t) = IsGnuTable class order bytes count t

-- ---- Chains, which are runs of chain words up to an end mark

-- the chain word of a symbol is there and has the end mark
unfoldable pub is_end_marked : GnuHash → ℕ → ℕ → Bool
is_end_marked h count i = elim (gnu_word h count i) [ None ↦ false | Some word ↦ is_end word ]

-- one past the last symbol with an end mark, or 0 where there is none: a chain ends that begins
-- before it
pub record IsEnd (h : GnuHash) (count end : ℕ) : Type 0 where
  pub none : (i : ℕ) → end ≤ i → is_end_marked h count i ≡ false
  pub last : 0 < end → is_end_marked h count (end - 1) ≡ true

abbrev pub chain_ends_before : GnuHash → ℕ → ℕ → Bool
chain_ends_before h end first =
    if first == 0 then true else nat_le h.symoffset first && nat_le (first + 1) end

-- the run of a symbol begins at `start`: no end mark stands between, and one before it
pub record IsChainRun (h : GnuHash) (count i start : ℕ) : Type 0 where
  pub within : start ≤ i
  pub free : (j : ℕ) → start ≤ j → j < i → is_end_marked h count j ≡ false
  pub begins : 1 < start → is_end_marked h count (start - 1) ≡ true

-- the same for the symbol after it
abbrev pub next_start : GnuHash → ℕ → ℕ → ℕ → ℕ
next_start h count start i = if is_end_marked h count i then i + 1 else start

-- a chain word that is there is a hash but for its low bit
abbrev pub has_hash : Option ℕ → ℕ → Bool
has_hash None hash = false
has_hash (Some word) hash = word / 2 == hash / 2

-- the first symbol of a hash's bucket
abbrev pub first_in_bucket : GnuHash → ℕ → ℕ
first_in_bucket h hash = slice_index_or h.buckets (hash % length h.buckets) 0

-- a symbol with a hash is in the run of its bucket's first symbol, at that one or behind it
unfoldable pub is_reached : GnuHash → ℕ → ℕ → ℕ → ℕ → Bool
is_reached h count start i hash =
    not (first_in_bucket h hash == 0)
    && (nat_le start (first_in_bucket h hash)
    && (nat_le (first_in_bucket h hash) i && has_hash (gnu_word h count i) hash))

-- where the run of the next symbol begins, or none where this one is listed by a hash and is not
-- found
unfoldable pub run_after : Class → GnuHash → ℕ → ℕ → ℕ → Option ℕ → Option ℕ
run_after class h count start i None = Some (next_start h count start i)
run_after class h count start i (Some hash) =
    if passes class h hash && is_reached h count start i hash
    then Some (next_start h count start i) else None

-- the chain of each bucket has an end
abbrev pub chains_end : GnuHash → ℕ → Bool
chains_end h count = list_all (λ first. ends (gnu_chain_from h count first)) h.buckets

-- all that a section that is whole is besides the listed symbols
unfoldable pub is_sound : Class → Order → List ℕ → ℕ → Bool
is_sound class order bytes count =
    has_parts class order bytes && chains_end (gnu_in class order bytes) count

pub record IsSoundGnuTable (c : Class) (order : Order) (bytes : List ℕ) (n : ℕ) (t : GnuTable)
    : Type 0 where
  pub table : IsGnuTable c order bytes n t
  pub sound : is_sound c order bytes n ≡ true

abbrev pub IsSoundIn : Class → Order → List ℕ → ℕ → Option GnuTable → Type 0
IsSoundIn class order bytes count None = is_sound class order bytes count ≡ false
IsSoundIn class order bytes count (Some t) = IsSoundGnuTable class order bytes count t

-- each listed symbol of names is found
abbrev pub all_are_found : Class → GnuHash → ℕ → List (Option (List ℕ)) → Bool
all_are_found class h count names = each_listed (is_found_gnu class h count) names
