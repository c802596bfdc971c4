use Rattle.std.proofs.Common.{drop}
use Rattle.std.specs.List.{flat_map, enumerate_from}
use Rattle.tool_objects.specs.tool_output.Reports.{UnderWay}
use Rattle.tool_objects.specs.tool_output.Steps.{KeepsSinks}
use Rattle.elf_lint_findings.specs.declared.places.Place.TheVariants.{Segment}
use Rattle.elf_lint_findings.specs.Findings.{at_segments, finding, findings_shown, found_if}
use Rattle.elf_lint_findings.proofs.by_segment.each_segment.Given as goal

abbrev pub invariant-loop-i : goal.invariant-loop-i
invariant-loop-i g l =
    let r = g.R.SegmentRule in record {
      report : UnderWay g.O.Sink g.E.Sink l.found l.initial.outputs l.outputs
          (findings_shown l.name (at_segments l.number l.text (r.finds l.elf.o) l.elf.o.phdrs))
          (findings_shown l.name (flat_map (λ row. found_if (r.finds l.elf.o row.1) (finding l.number (Segment row.0) l.text)) (drop l.i (enumerate_from 0 l.elf.o.phdrs))));
      keeps : KeepsSinks g.O.Sink g.E.Sink l.initial.outputs l.outputs;
    }
