-- The rows that are sorted, each with a key that decides most comparisons: the value, where rows
-- stand by value, and else the first sixteen bytes of the name.
use Rattle.std.specs.Prelude.{◌≡◌, ◌+◌, ◌*◌, ℕ, zero, suc, Bool, false, List, slice_index_or, if◌then◌else◌}
use Rattle.elf_types.specs.Lists.{AreBytes}
use Rattle.nm_tool.specs.declared.order.SymbolSortRow.{SymbolSortRow}
use Rattle.nm_tool.specs.Order.{SymbolEntry}

-- the number of the first bytes of a list, of which the first counts most; where there is none it
-- counts as 0
unfoldable pub prefix : ℕ → List ℕ → ℕ
prefix zero bytes = 0
prefix (suc n) bytes = prefix n bytes * 256 + slice_index_or bytes n 0

-- the entry of a row
unfoldable pub as_entry : Bool → SymbolSortRow → SymbolEntry
as_entry by_value r = record {
  value = if by_value then r.key else 0;
  name = r.name.now;
  index = r.index;
}

-- its key is the one of its name, where rows do not stand by value
pub record KeyIs (by_value : Bool) (r : SymbolSortRow) : Type 0 where
  pub key : by_value ≡ false → r.key ≡ prefix 16 r.name.now
  pub bytes : AreBytes r.name.now
