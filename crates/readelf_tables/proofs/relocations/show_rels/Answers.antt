use Rattle.tool_objects.proofs.ListCounts.{rels_of_length}
use Rattle.readelf_tables.proofs.relocations.show_rels.Goals as goal

pub show_table-requires-clause-counted : goal.show_table-requires-clause-counted
show_table-requires-clause-counted g c = rels_of_length
