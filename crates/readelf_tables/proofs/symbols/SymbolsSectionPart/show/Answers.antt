use Rattle.tool_objects.proofs.ListCounts.{syms_of_length}
use Rattle.readelf_tables.proofs.symbols.SymbolsSectionPart.show.Goals as goal

pub show_table-requires-clause-counted : goal.show_table-requires-clause-counted
show_table-requires-clause-counted g c = syms_of_length
