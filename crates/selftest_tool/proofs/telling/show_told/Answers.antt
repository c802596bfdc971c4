use Rattle.std.proofs.Common.{ℕ, List, length, sym, ap, ◌∙◌}
use Rattle.tool_output.specs.Reports.{shown_report}
use Rattle.elfkit_outcomes.proofs.tool_objects.ElfSteps.{elf_as, elf_left, elf_says}
use Rattle.selftest_tool.specs.Told.{lines_text, value_sum, symbols_told, first_named, told_report}
use Rattle.selftest_tool.proofs.ToldLemmas.{symbols_counted, told_refused, told_shown}
use Rattle.selftest_tool.proofs.telling.show_told.Goals as goal

pub show_lines-requires-clause-passed : goal.show_lines-requires-clause-passed
show_lines-requires-clause-passed g c =
    (symbols_counted c.args.n c.args.name.now c.args.elf.now.o c.in-Ok.symbols
    c.in-Ok.ensures.answer).0

pub show_lines-requires-clause-count : goal.show_lines-requires-clause-count
show_lines-requires-clause-count g c =
    (symbols_counted c.args.n c.args.name.now c.args.elf.now.o c.in-Ok.symbols
    c.in-Ok.ensures.answer).1

pub returns-in-Ok : goal.returns-in-Ok
returns-in-Ok g c =
    let n = c.args.n in
    let o = c.args.elf.now.o in
    let counted =
    symbols_counted n c.args.name.now o c.in-Ok.symbols c.in-Ok.ensures.answer in
    elf_as g.S.Source g.O.Sink g.E.Sink
    (λ o. shown_report (lines_text (length o.sections) c.in-Ok.symbols (length o.base)
    (value_sum (symbols_told n o)) (first_named n c.args.last.now o)))
    (told_report n c.args.name.now) c.show_lines.result c.args.elf.now c.show_lines.new.elf
    c.args.outputs.now c.show_lines.new.outputs
    (λ told. told_shown n c.args.name.now o c.in-Ok.symbols counted.0 counted.1
    ∙ ap (λ (name : List ℕ). shown_report (lines_text (length o.sections) c.in-Ok.symbols
    (length o.base) (value_sum (symbols_told n o)) (first_named n name o)))
    (sym c.requires.last))
    c.show_lines.ensures

pub returns-in-Err : goal.returns-in-Err
returns-in-Err g c =
    let n = c.args.n in
    elf_says g.S.Source g.O.Sink g.E.Sink (told_report n c.args.name.now) c.refuse.result
    c.args.elf.now c.args.elf.now c.args.outputs.now c.refuse.new.self
    (elf_left g.S.Source c.args.elf.now)
    (λ told. rw (told_refused n c.args.name.now c.args.elf.now.o c.in-Err.e
    c.in-Err.ensures.answer) c.refuse.ensures.reports)
    c.refuse.ensures.leaves
