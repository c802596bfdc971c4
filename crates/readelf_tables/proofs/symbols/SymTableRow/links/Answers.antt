use Rattle.readelf_tables.proofs.symbols.SymTableRow.links.Goals as goal

pub returns : goal.returns
returns g c = record {
  named = record { linked = c.links_of-links.ensures.linked; strings = c.links_of-links.ensures.strings };
  indexes = c.shndx_table-indexes.ensures;
}
