-- The order of the rows: by the bytes of the names and then by the symbols' indexes, or by the
-- values before both.
use Rattle.std.specs.Prelude.{◌≡◌, ℕ, List, [], ◌∷◌, if◌then◌else◌}
use Rattle.std.specs.declared.cmp.Ordering.{Ordering}
use Rattle.std.specs.Ordering.{is_lt, ordering_then, nat_cmp}
use Rattle.std.specs.Cmp.Lexicographic.{slice_cmp}
use Rattle.std.specs.List.Sorted.{IsPermutation, IsSorted}

-- a symbol that is listed: its value, where the rows stand by value, and else 0; its name as it is
-- shown; its index in the table
pub record SymbolEntry : Type 0 where
  pub value : ℕ
  pub name : List ℕ
  pub index : ℕ

unfoldable pub entry_cmp : SymbolEntry → SymbolEntry → Ordering
entry_cmp a b =
    ordering_then (nat_cmp a.value b.value)
    (ordering_then (slice_cmp nat_cmp a.name b.name) (nat_cmp a.index b.index))

-- an entry put before the first that does not come before it
unfoldable pub inserted : SymbolEntry → List SymbolEntry → List SymbolEntry
inserted e [] = e ∷ []
inserted e (f ∷ es) = if is_lt (entry_cmp f e) then f ∷ inserted e es else e ∷ f ∷ es

-- the entries in that order
unfoldable pub entries_in_order : List SymbolEntry → List SymbolEntry
entries_in_order [] = []
entries_in_order (e ∷ es) = inserted e (entries_in_order es)

-- a list of these entries, each as often, in which none comes before an earlier one
pub record IsOrderOf (es fs : List SymbolEntry) : Type 0 where
  pub moved : IsPermutation es fs
  pub sorted : IsSorted entry_cmp fs

-- the entries in order are such a list, and no other list is one
pub record OrderLaw : Type 0 where
  pub is : (es : List SymbolEntry) → IsOrderOf es (entries_in_order es)
  pub only : (es fs : List SymbolEntry) → IsOrderOf es fs → fs ≡ entries_in_order es
