-- How the names of a table in the making are kept: their bytes once, and an entry for each, in
-- order of first use, by its hash and how many names before it have that hash.
use Rattle.std.specs.Prelude.{◌≡◌, ℕ, ◌+◌, ◌<◌, ◌^◌, false, ◌==◌, List, [], ◌∷◌, ◌++◌, length, take, drop, map, filter, slice_index_or}
use Rattle.std.specs.List.{flat_map, list_any}
use Rattle.std.specs.Str.{bytes_eq}
use Rattle.std.specs.Hash.FoldHasher.{initial, write, finish}
use Rattle.strtab_build.specs.declared.entries.Entry.{Entry}
use Rattle.strtab_build.specs.Table.{distinct, place_of, table}

-- the table's bytes before its last NUL: a NUL and then each name's bytes
unfoldable pub unclosed : List (List ℕ) → List ℕ
unclosed names = flat_map (λ name. 0 ∷ name) names

-- the bytes of an entry's name
abbrev pub name_in : List ℕ → Entry → List ℕ
name_in bytes entry = take entry.len (drop entry.start bytes)

-- the names that the entries stand for
unfoldable pub names_in : List ℕ → List ((ℕ × ℕ) × Entry) → List (List ℕ)
names_in bytes entries = map (λ keyed. name_in bytes keyed.1) entries

-- the hash of a name
unfoldable pub hash_of : List ℕ → ℕ
hash_of name = finish (write initial name)

-- the names with a hash, in their order
abbrev pub chain_of : ℕ → List (List ℕ) → List (List ℕ)
chain_of hash names = filter (λ name. hash == hash_of name) names

-- the key of a name that is used after others: its hash, and how many of them have it
abbrev pub key_after : List (List ℕ) → List ℕ → ℕ × ℕ
key_after earlier name = (hash_of name, length (chain_of (hash_of name) earlier))

-- the entry of a name that is used after others
abbrev pub entry_after : List (List ℕ) → List ℕ → Entry
entry_after earlier name = record { start = length (unclosed earlier) + 1; len = length name }

-- the entries of names that are used after others, each with its key
unfoldable pub entries_after : List (List ℕ) → List (List ℕ) → List ((ℕ × ℕ) × Entry)
entries_after earlier [] = []
entries_after earlier (name ∷ names) =
    (key_after earlier name, entry_after earlier name)
    ∷ entries_after (earlier ++ name ∷ []) names

-- a name that the table does not hold yet
pub record IsNew (name : List ℕ) (names : List (List ℕ)) : Type 0 where
  pub not_empty : (length name == 0) ≡ false
  pub unused : list_any (bytes_eq name) names ≡ false

-- an offset is the place of a name that the table holds, or of the empty one
pub record IsHeld (name : List ℕ) (names : List (List ℕ)) (offset : ℕ) : Type 0 where
  pub place : offset ≡ place_of name names
  pub kept : distinct (names ++ name ∷ []) ≡ names
  pub small : length (table (names ++ name ∷ [])) < 2 ^ 32

-- the names stand once each, at their places, and their table is within its limit
pub record IsTable (names : List (List ℕ)) : Type 0 where
  pub once : distinct names ≡ names
  pub places : (i : ℕ) → i < length names
      → place_of (slice_index_or names i []) names ≡ length (unclosed (take i names)) + 1
  pub small : length (unclosed names) + 1 < 2 ^ 32

-- the bytes and the entries are those of the names
pub record IsKept (bytes : List ℕ) (entries : List ((ℕ × ℕ) × Entry)) (names : List (List ℕ))
    : Type 0 where
  pub names_are : IsTable names
  pub bytes_are : bytes ≡ unclosed names
  pub entries_are : entries ≡ entries_after [] names
