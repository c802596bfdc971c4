use Rattle.std.proofs.Common.{◌≡◌, ◌≤◌, length, drop}
use Rattle.tool_output.specs.Lines.{numbered_lines}
use Rattle.readelf_tables.specs.Blocks.Blocks.{line_row}
use Rattle.readelf_tables.proofs.blocks.blocks.write_lines.Given as goal

abbrev pub invariant-loop-i : goal.invariant-loop-i
invariant-loop-i l = record {
  inside : l.at ≤ length l.buffer;
  within : l.i ≤ length l.lines;
  wrote : drop l.at l.buffer ≡ numbered_lines line_row l.i (drop l.i l.lines);
}

abbrev pub decreases-loop-i : goal.decreases-loop-i
decreases-loop-i l = l.i
