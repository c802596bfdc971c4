use Rattle.std.proofs.Common.{length, arith}
use Rattle.elf_object.specs.Object.{Object}
use Rattle.elf_object.specs.Due.{all_sections}
use Rattle.tool_output.specs.Reports.{shown_report, reports_of}
use Rattle.tool_objects.proofs.ElfSteps.{elf_as, elf_left, elf_says, elf_over}
use Rattle.readelf_headers.specs.Sections.{shown_section_line}
use Rattle.readelf_headers.specs.SectionBlocks.{lines_by}
use Rattle.readelf_headers.proofs.SectionBlockLemmas.{all_lines}
use Rattle.readelf_headers.proofs.sections.show_lines.Goals as goal

pub returns-in-Some : goal.returns-in-Some
returns-in-Some g c =
    let strings = c.in-Some.strings.now in
    let held = λ (o : Object). shown_report (lines_by o strings 0 (length o.sections)) in
    let all = λ (o : Object). reports_of (shown_section_line o) (all_sections o) in
    elf_over g.S.Source g.O.Sink g.E.Sink 0 1 all _ c.args.elf.now _ c.args.outputs.now _ (omega arith)
    (elf_as g.S.Source g.O.Sink g.E.Sink held all _ c.args.elf.now _ c.args.outputs.now _
    (λ told. all_lines c.args.elf.now strings c.in-Some.ensures told)
    (elf_says g.S.Source g.O.Sink g.E.Sink held _ c.args.elf.now _ c.args.outputs.now _
    (elf_left g.S.Source c.args.elf.now) (λ told. c.show_blocks.ensures.reports)
    c.show_blocks.ensures.leaves))
