use Rattle.readelf_tables.proofs.symbols.SymTableRow.show.Goals as goal

pub show_row-requires-clause-end : goal.show_row-requires-clause-end
show_row-requires-clause-end g c = λ told. tt
