-- Section headers as the program keeps them: a table that several may hold, and the headers that
-- came of one (gABI chapter 4, "Section Header").
use Rattle.std.specs.Prelude.{List, [], ◌∷◌}
use Rattle.elf_types.specs.declared.records.Shdr.{Shdr}
use Rattle.section_table.specs.declared.tables.Holding.{Holding}
use Rattle.section_table.specs.declared.tables.Holding.TheVariants.{Alone, Shared}

-- the headers of a table that one holds alone, or several do
abbrev pub listed_in : Holding → List Shdr
listed_in (Alone headers) = headers
listed_in (Shared headers) = headers.value

-- the present headers: those of the table that was opened, as long as there are no others
abbrev pub present : List Shdr → List Shdr → List Shdr
present opened [] = opened
present opened (h ∷ others) = h ∷ others
