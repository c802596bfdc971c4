use Rattle.readelf_tables.proofs.RelocationLemmas.{rela_rows_are}
use Rattle.readelf_tables.proofs.relocations.RelaTableRows.show_rows.Goals as goal

pub show_relocations_of-requires-clause-lines : goal.show_relocations_of-requires-clause-lines
show_relocations_of-requires-clause-lines g c = rela_rows_are
