use Rattle.std.proofs.Common.{false, drop}
use Rattle.tool_output.specs.Lines.{numbered_lines}
use Rattle.tool_output.specs.Reports.{shown_report, UnderWay}
use Rattle.tool_output.specs.Steps.{KeepsSinks}
use Rattle.readelf_headers.specs.Segments.{phdr_line}
use Rattle.readelf_headers.proofs.segments.show_lines.Given as goal

abbrev pub invariant-loop-i : goal.invariant-loop-i
invariant-loop-i g l = record {
  lines : UnderWay g.O.Sink g.E.Sink false l.initial.outputs l.outputs
      (shown_report (numbered_lines phdr_line 0 l.elf.o.phdrs)) (shown_report (numbered_lines phdr_line l.i (drop l.i l.elf.o.phdrs)));
  keeps : KeepsSinks g.O.Sink g.E.Sink l.initial.outputs l.outputs;
}
