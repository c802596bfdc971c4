use Rattle.std.proofs.Common.{◌≡◌, take}
use Rattle.tool_output.specs.Lines.{numbered_lines}
use Rattle.readelf_tables.specs.Blocks.Blocks.{line_row, found_row}
use Rattle.readelf_tables.proofs.blocks.blocks.name_lines.Given as goal

abbrev pub invariant-loop-i : goal.invariant-loop-i
invariant-loop-i l = numbered_lines line_row 0 l.lines ≡ numbered_lines (found_row l.strings) 0 (take l.i l.found)
