-- Kept symbols as they are sorted: by keys, each of which decides most comparisons, then by their
-- names, then by their indexes.
use Rattle.std.specs.Prelude.{◌≡◌, ◌+◌, ◌*◌, ◌<◌, ◌==◌, ℕ, zero, suc, Bool, true, not, List, All, length, slice_index_or}
use Rattle.std.specs.declared.cmp.Ordering.{Ordering}
use Rattle.std.specs.Ordering.{ordering_then, nat_cmp}
use Rattle.std.specs.Cmp.Lexicographic.{slice_cmp}
use Rattle.nm_tool.specs.declared.kept.Kept.{Kept}
use Rattle.nm_tool.specs.Listed.{is_empty}

-- ---- Keys

-- the number of so many bytes of a list from a place on, of which the first counts most; where
-- there is none it counts as 0
unfoldable pub number_from : ℕ → ℕ → List ℕ → ℕ
number_from place zero bytes = 0
number_from place (suc n) bytes =
    number_from place n bytes * 256 + slice_index_or bytes (place + n) 0

-- two lists have the same bytes before a place
abbrev pub SharesFront : ℕ → List ℕ → List ℕ → Type 0
SharesFront place a b = (i : ℕ) → i < place → slice_index_or a i 0 ≡ slice_index_or b i 0

-- none of the bytes is a NUL
abbrev pub HasNoNul : List ℕ → Type 0
HasNoNul bytes = (i : ℕ) → i < length bytes → not (slice_index_or bytes i 0 == 0) ≡ true

-- the symbol with the number of eight bytes of its name as its key
abbrev pub keyed : (ℕ → List ℕ) → ℕ → Kept → Kept
keyed name_of place k = record {
  key = number_from place 8 (name_of k.name);
  index = k.index;
  name = k.name;
}

-- Its name begins as another list does up to a place, and its key is the number of the eight bytes
-- from there on.
pub record HasKey (name_of : ℕ → List ℕ) (place : ℕ) (first : List ℕ) (k : Kept) : Type 0 where
  pub shares : SharesFront place first (name_of k.name)
  pub key : k.key ≡ number_from place 8 (name_of k.name)

-- The keys of symbols are such numbers, from one place on.
pub record AreKeyed (name_of : ℕ → List ℕ) (rows : List Kept) : Type 0 where
  pub place : ℕ
  pub first : List ℕ
  pub keys : All (HasKey name_of place first) rows

-- ---- The order

unfoldable pub names_cmp : (ℕ → List ℕ) → Kept → Kept → Ordering
names_cmp name_of a b =
    ordering_then (slice_cmp nat_cmp (name_of a.name) (name_of b.name)) (nat_cmp a.index b.index)

unfoldable pub kept_cmp : (ℕ → List ℕ) → Kept → Kept → Ordering
kept_cmp name_of a b = ordering_then (nat_cmp a.key b.key) (names_cmp name_of a b)

-- ---- What is sorted

-- whether its name is not empty
abbrev pub has_nonempty_name : (ℕ → List ℕ) → Kept → Bool
has_nonempty_name name_of k = not (is_empty (name_of k.name))
