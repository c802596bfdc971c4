use Rattle.std.proofs.Common.{false, length, ◌-◌}
use Rattle.tool_output.specs.Reports.{shown_report, UnderWay}
use Rattle.tool_output.specs.Steps.{KeepsSinks}
use Rattle.readelf_headers.specs.SectionBlocks.{lines_by}
use Rattle.readelf_headers.proofs.section_blocks.show_blocks_by.Given as goal

abbrev pub invariant-loop-from : goal.invariant-loop-from
invariant-loop-from g l = record {
  lines : UnderWay g.O.Sink g.E.Sink false l.initial.outputs l.outputs
      (shown_report (lines_by l.elf.o l.strings 0 (length l.elf.o.sections)))
      (shown_report (lines_by l.elf.o l.strings l.from (length l.elf.o.sections)));
  keeps : KeepsSinks g.O.Sink g.E.Sink l.initial.outputs l.outputs;
}

abbrev pub decreases-loop-from : goal.decreases-loop-from
decreases-loop-from g l = l.count - l.from
