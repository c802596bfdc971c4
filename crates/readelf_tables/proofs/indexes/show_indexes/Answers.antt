use Rattle.tool_objects.proofs.ListCounts.{halves_of_length}
use Rattle.readelf_tables.proofs.indexes.show_indexes.Goals as goal

pub show_table-requires-clause-counted : goal.show_table-requires-clause-counted
show_table-requires-clause-counted g c = halves_of_length
