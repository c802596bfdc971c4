use Rattle.readelf_tables.proofs.rows_of_symbols.symbol_bytes.symbols_at_hand.Goals as goal

pub returns-in_ok-strings-in-None : goal.returns-in_ok-strings-in-None
returns-in_ok-strings-in-None g c = record {
  plain = c.in-None.is;
  symbols = c.in_ok-symbols-in-None.ensures;
  names = c.in_ok-strings-in-None.ensures.strings;
}
