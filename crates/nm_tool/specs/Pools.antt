-- The symbols that are listed, as they are held until they are sorted: their names in one list of
-- bytes, one after another.
use Rattle.std.specs.Prelude.{◌++◌, ◌+◌, ℕ, zero, suc, Bool, List, [], ◌∷◌, length, take, drop, slice_get, Option, Some, None, if◌then◌else◌}
use Rattle.elf_types.specs.declared.records.Sym.{Sym}
use Rattle.elf_object.specs.Object.{Object}
use Rattle.nm_tool.specs.declared.options.NmOptions.{NmOptions}
use Rattle.nm_tool.specs.declared.pools.Spot.{Spot}
use Rattle.nm_tool.specs.declared.pools.Pool.{Pool}
use Rattle.nm_tool.specs.Order.{SymbolEntry}
use Rattle.nm_tool.specs.Listed.{symbols_in_table, shown_symbol_name, is_empty, is_listable_symbol, is_wanted}

-- the entries of names and of their spots
unfoldable pub spot_entries : Bool → List ℕ → List Spot → List SymbolEntry
spot_entries by_value names [] = []
spot_entries by_value names (s ∷ spots) =
    record { value = if by_value then s.value else 0; name = take s.len names; index = s.index }
    ∷ spot_entries by_value (drop s.len names) spots

-- symbol i, where it is there and wanted whatever its name
abbrev pub if_wanted : NmOptions → Object → ℕ → ℕ → Sym → Option Sym
if_wanted options o s i x =
    if is_listable_symbol options x then
    (if is_wanted options o s i x then Some x else None) else None

unfoldable pub wanted_at : NmOptions → Object → ℕ → ℕ → Option Sym
wanted_at options o s i =
    elim (slice_get (symbols_in_table o s) i) [ None ↦ None | Some x ↦ if_wanted options o s i x ]

-- a pool with one more name, unless it is empty
unfoldable pub pool_with_name : Pool → ℕ → ℕ → List ℕ → Pool
pool_with_name p value i name = if is_empty name then p else record {
  names = p.names ++ name;
  spots = p.spots ++ record { value = value; index = i; len = length name } ∷ [];
}

-- a pool with symbol i, where it is wanted
unfoldable pub with_symbol : NmOptions → Object → ℕ → Pool → ℕ → Pool
with_symbol options o s p i =
    elim (wanted_at options o s i) [
      | None ↦ p
      | Some x ↦ pool_with_name p x.value i (shown_symbol_name o s x)
    ]

-- the pool of the first n symbols after symbol 0
unfoldable pub pool_of : NmOptions → Object → ℕ → ℕ → Pool
pool_of options o s zero = record { names = []; spots = [] }
pool_of options o s (suc n) = with_symbol options o s (pool_of options o s n) (n + 1)
