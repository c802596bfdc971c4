use Rattle.std.proofs.Common.{drop}
use Rattle.std.specs.List.{flat_map}
use Rattle.tool_objects.specs.elf_object.Due.{all_sections}
use Rattle.tool_objects.specs.tool_output.Reports.{UnderWay}
use Rattle.tool_objects.specs.tool_output.Steps.{KeepsSinks}
use Rattle.elf_lint_findings.specs.declared.places.Place.TheVariants.{Section}
use Rattle.elf_lint_findings.specs.Findings.{at_sections, finding, findings_shown, found_if}
use Rattle.elf_lint_findings.proofs.by_header.each_header.Given as goal

abbrev pub invariant-loop-s : goal.invariant-loop-s
invariant-loop-s g l =
    let finds = g.R.HeaderRule.finds l.rule l.elf.o in record {
      report : UnderWay g.O.Sink g.E.Sink l.found l.initial.outputs l.outputs
          (findings_shown l.name (at_sections l.number l.text finds (all_sections l.elf.o)))
          (findings_shown l.name
          (flat_map (λ s. found_if (finds s) (finding l.number (Section s) l.text))
          (drop l.s (all_sections l.elf.o))));
      keeps : KeepsSinks g.O.Sink g.E.Sink l.initial.outputs l.outputs;
    }
