use Rattle.std.proofs.Common.{drop}
use Rattle.elf_object.specs.Answers.{items_at, syms_of}
use Rattle.tool_output.specs.Lines.{numbered_lines}
use Rattle.tool_output.specs.Reports.{shown_report}
use Rattle.tool_objects.specs.Steps.{ElfUnderWay}
use Rattle.readelf_tables.specs.Symbols.{symbol_row}
use Rattle.readelf_tables.proofs.symbols.show_each_row.Given as goal

abbrev pub invariant-loop-i : goal.invariant-loop-i
invariant-loop-i g l =
    let s = l.table.section.0 in
    ElfUnderWay g.S.Source g.O.Sink g.E.Sink l.refused l.initial.elf l.elf l.initial.outputs
    l.outputs (λ o. shown_report (numbered_lines (symbol_row o s) 0 (syms_of (items_at o s 0))))
    (λ o. shown_report (numbered_lines (symbol_row o s) l.i (drop l.i (syms_of (items_at o s 0)))))
