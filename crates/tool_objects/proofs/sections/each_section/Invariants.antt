use Rattle.std.proofs.Common.{drop}
use Rattle.gelf_view.specs.elf_object.Due.{all_sections}
use Rattle.tool_output.specs.Reports.{reports_of}
use Rattle.tool_objects.proofs.PassSteps.{PassOnWay}
use Rattle.tool_objects.proofs.sections.each_section.Given as goal

abbrev pub invariant-loop-s : goal.invariant-loop-s
invariant-loop-s g l =
    let report = g.T.SectionTool.report l.tool in
    PassOnWay g.S.Source g.O.Sink g.E.Sink l.s l.refused l.initial.elf l.elf l.initial.outputs
    l.outputs (λ o. reports_of (report o) (all_sections o))
    (λ o. reports_of (report o) (drop l.s (all_sections o)))
