-- How the names of a table in the making are kept: their bytes once, an entry for each, and what
-- finds them again.
use Rattle.std.specs.Prelude.{◌≡◌, ℕ, ◌+◌, ◌<◌, ◌==◌, ◌⊎◌, if◌then◌else◌, List, [], ◌∷◌, ◌++◌, length, take, drop, map, slice_index_or, Option, Some, None, Result, IfOk, OnOk, OnErr}
use Rattle.std.specs.Ordering.{nat_cmp}
use Rattle.std.specs.BTreeMap.{get}
use Rattle.elf_types.specs.declared.errors.ElfError.{ElfError}
use Rattle.strtab_build.specs.declared.entries.Entry.{Entry as Stated}
use Rattle.strtab_build.specs.Names.{unclosed, entries_after, IsTable}
use Rattle.strtab_build.specs.Table.{distinct, place_of}
use Rattle.strtab_shared.specs.declared.entries.NameEntry.{NameEntry}
use Rattle.strtab_shared.specs.declared.parts.StrtabParts.{StrtabParts}
use Rattle.strtab_shared.specs.Hashes.{quick_hash_of, digest_of}
use Rattle.strtab_shared.specs.Chains.{FollowsSameHash, IsIndexed}

-- where a name stands, and its length
abbrev pub span : NameEntry → ℕ × ℕ
span e = (e.start, e.len)

abbrev pub stated_span : (ℕ × ℕ) × Stated → ℕ × ℕ
stated_span keyed = (keyed.1.start, keyed.1.len)

-- the bytes of an entry's name
abbrev pub entry_name_in : List ℕ → NameEntry → List ℕ
entry_name_in bytes e = take e.len (drop e.start bytes)

-- the names that the entries stand for
unfoldable pub entry_names_in : List ℕ → List NameEntry → List (List ℕ)
entry_names_in bytes entries = map (entry_name_in bytes) entries

-- the name at an index, its hash and its digest
abbrev pub name_at : List (List ℕ) → ℕ → List ℕ
name_at names i = slice_index_or names i []

abbrev pub hash_at : List (List ℕ) → ℕ → ℕ
hash_at names i = quick_hash_of (name_at names i)

abbrev pub digest_at : List (List ℕ) → ℕ → ℕ
digest_at names i = digest_of (name_at names i)

-- the index before an entry in its chain
abbrev pub older_at : List NameEntry → ℕ → Option ℕ
older_at entries i =
    (slice_index_or entries i (record { start = 0; len = 0; older = None })).older

-- the bytes and the entries are those of the names, and what finds them does
pub record IsNameTableKept (bytes : List ℕ) (entries : List NameEntry) (first newest : ℕ → Option ℕ)
    (names : List (List ℕ)) : Type 0 where
  pub names_are : IsTable names
  pub bytes_are : bytes ≡ unclosed names
  pub spans_are : map span entries ≡ map stated_span (entries_after [] names)
  pub indexed : IsIndexed (length names) (hash_at names) (digest_at names) (older_at entries) first
      newest

-- the names of a table in the making
abbrev pub names_of : StrtabParts → List (List ℕ)
names_of p = entry_names_in p.bytes p.entries.items

abbrev pub AreKept : StrtabParts → Type 0
AreKept p =
    IsNameTableKept p.bytes p.entries.items (get nat_cmp p.first) (get nat_cmp p.newest)
    (names_of p)

-- there is no name
pub record IsNothing (p : StrtabParts) : Type 0 where
  pub bytes : p.bytes ≡ []
  pub entries : p.entries.items ≡ []
  pub first : (q : ℕ) → get nat_cmp p.first q ≡ None
  pub newest : (q : ℕ) → get nat_cmp p.newest q ≡ None

-- no name that is not the first with its hash is this one
abbrev pub IsNoFollower : List ℕ → StrtabParts → Type 0
IsNoFollower name p =
    (i : ℕ) → i < length (names_of p) → FollowsSameHash (get nat_cmp p.first)
    (hash_at (names_of p)) i
    → name_at (names_of p) i ≡ name → ⊥

-- what is noted, or else what comes in its place
abbrev pub or_else : Option ℕ → Option ℕ → Option ℕ
or_else (Some i) other = Some i
or_else None other = other

-- what is noted, or else an index for a hash
abbrev pub with_first : (ℕ → Option ℕ) → ℕ → ℕ → ℕ → Option ℕ
with_first noted hash index q = or_else (noted q) (if hash == q then Some index else None)

-- a name and its entry were put last
pub record PutsLast (name : List ℕ) (older : Option ℕ) (result : Result ℕ ElfError)
    (old new : StrtabParts) : Type 0 where
  pub bytes : OnOk result (new.bytes ≡ old.bytes ++ 0 ∷ name)
  pub start : IfOk result (λ start. start ≡ length old.bytes + 1)
  pub entries : IfOk result (λ start. new.entries.items ≡ old.entries.items
      ++ record { start = start; len = length name; older = older } ∷ [])
  pub first : OnOk result (new.first ≡ old.first)
  pub newest : OnOk result (new.newest ≡ old.newest)

-- a name is among the names, and its place is told; or else nothing changed or no name is left
pub record Places (name : List ℕ) (result : Result ℕ ElfError) (old new : StrtabParts)
    : Type 0 where
  pub kept : AreKept new
  pub names : OnOk result (names_of new ≡ distinct (names_of old ++ name ∷ []))
  pub place : IfOk result (λ offset. offset ≡ place_of name (names_of new))
  pub left : OnErr result ((names_of new ≡ names_of old) ⊎ (names_of new ≡ []))
