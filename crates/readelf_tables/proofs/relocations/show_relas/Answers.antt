use Rattle.tool_objects.proofs.ListCounts.{relas_of_length}
use Rattle.readelf_tables.proofs.relocations.show_relas.Goals as goal

pub show_table-requires-clause-counted : goal.show_table-requires-clause-counted
show_table-requires-clause-counted g c = relas_of_length
