use Rattle.std.proofs.Common.{drop}
use Rattle.elf_object.specs.Answers.{items_at}
use Rattle.tool_output.specs.Lines.{numbered_lines}
use Rattle.tool_output.specs.Reports.{shown_report}
use Rattle.tool_objects.specs.Steps.{ElfUnderWay}
use Rattle.readelf_tables.proofs.tables.show_each.Given as goal

abbrev pub invariant-loop-i : goal.invariant-loop-i
invariant-loop-i g l =
    ElfUnderWay g.S.Source g.O.Sink g.E.Sink l.refused l.initial.elf l.elf l.initial.outputs l.outputs
    (λ o. shown_report (numbered_lines (g.T.TableRow.line o l.table.section.0) 0 (g.T.Listed.list_of (items_at o l.table.section.0 0))))
    (λ o. shown_report (numbered_lines (g.T.TableRow.line o l.table.section.0) l.i (drop l.i (g.T.Listed.list_of (items_at o l.table.section.0 0)))))
