use Rattle.std.proofs.Common.{◌≡◌, take, drop}
use Rattle.tool_output.specs.Lines.{numbered_lines}
use Rattle.readelf_tables.specs.Blocks.Blocks.{found_row, table_row, relocations_in_bytes}
use Rattle.readelf_tables.proofs.blocks.blocks.find_symbols.Given as goal

abbrev pub invariant-loop-k : goal.invariant-loop-k
invariant-loop-k g l =
    numbered_lines (found_row l.table.strings.now) 0 l.found
    ≡ numbered_lines (table_row g.T.Relocation.entry_of l.table) l.first (take l.k (drop l.first (relocations_in_bytes g.T.Listed.kind g.T.Listed.list_of l.table)))
