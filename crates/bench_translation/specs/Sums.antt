-- The one number that is printed: a sum in which each number counts with its place.
use Rattle.std.specs.Prelude.{ℕ, ◌+◌, ◌*◌, ◌%◌, ◌^◌, List, [], ◌∷◌, take, Option, Some}
use Rattle.std.specs.List.{flat_map}
use Rattle.elf_types.specs.declared.records.Sym.{Sym}
use Rattle.elf_xlate.specs.declared.content.Items.{Items}
use Rattle.elf_xlate.specs.declared.content.Items.TheVariants as items

-- a sum with one number more
unfoldable pub sum_with_number : ℕ → ℕ → ℕ
sum_with_number sum n = (sum * 31 % 2 ^ 64 + n) % 2 ^ 64

-- a sum with all numbers of a list more, one after the other
unfoldable pub with_all : ℕ → List ℕ → ℕ
with_all sum [] = sum
with_all sum (n ∷ numbers) = with_all (sum_with_number sum n) numbers

-- the numbers of a symbol
unfoldable pub symbol_field_values : Sym → List ℕ
symbol_field_values s = s.name ∷ s.info ∷ s.other ∷ s.shndx ∷ s.value ∷ s.size ∷ []

-- a sum with a symbol more
abbrev pub sum_with_symbol : ℕ → Sym → ℕ
sum_with_symbol sum s = with_all sum (symbol_field_values s)

-- a sum with all symbols of a list more
abbrev pub with_symbols : ℕ → List Sym → ℕ
with_symbols sum symbols = with_all sum (flat_map symbol_field_values symbols)

-- the sum of symbols, 0 of other items
unfoldable pub sum_of_symbols : Items → ℕ
sum_of_symbols (items.Sym symbols) = with_symbols 0 symbols
sum_of_symbols _ = 0

-- the symbols among items that may be there
unfoldable pub symbols_of_items : Option Items → List Sym
symbols_of_items (Some (items.Sym symbols)) = symbols
symbols_of_items _ = []

-- the sum after rounds each of which adds the symbol of its place, where there is one
unfoldable pub decode_sum : ℕ → ℕ → List Sym → ℕ
decode_sum first rounds symbols = with_symbols first (take rounds symbols)

-- the sum of bytes, and after rounds each of which adds the byte of its place, where there is one
unfoldable pub encode_sum : ℕ → List ℕ → ℕ
encode_sum rounds bytes = with_all (with_all 0 bytes) (take rounds bytes)
