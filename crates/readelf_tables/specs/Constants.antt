-- The bit of a version index that hides its symbol (GNU's version sections), its name beside its
-- number.
use Rattle.std.specs.Prelude.{ℕ, List, [], ◌∷◌}
use Rattle.readelf_tables.specs.declared.indexes.TheConstants.{VERSYM_HIDDEN}

abbrev pub index_bits : List (ℕ × ℕ)
index_bits = (VERSYM_HIDDEN, 0x8000) ∷ []
