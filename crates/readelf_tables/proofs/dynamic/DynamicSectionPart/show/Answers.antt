use Rattle.tool_objects.proofs.ListCounts.{dyns_of_length}
use Rattle.readelf_tables.proofs.dynamic.DynamicSectionPart.show.Goals as goal

pub show_table-requires-clause-counted : goal.show_table-requires-clause-counted
show_table-requires-clause-counted g c = dyns_of_length
