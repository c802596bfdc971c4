use Rattle.std.proofs.Common.{◌≡◌, ◌≤◌, length, drop}
use Rattle.readelf_headers.specs.SectionBlocks.{lines_by}
use Rattle.readelf_headers.proofs.section_blocks.write_lines.Given as goal

abbrev pub invariant-loop-i : goal.invariant-loop-i
invariant-loop-i g l = record {
  inside : l.at ≤ length l.buffer;
  below : l.from ≤ l.i;
  within : l.i ≤ l.to;
  wrote : drop l.at l.buffer ≡ lines_by l.elf.o l.strings l.i l.to;
}

abbrev pub decreases-loop-i : goal.decreases-loop-i
decreases-loop-i g l = l.i
