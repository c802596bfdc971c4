use Rattle.std.proofs.Common.{refl}
use Rattle.elf_object.specs.Object.{Object}
use Rattle.elf_object.specs.Due.{all_sections}
use Rattle.tool_output.specs.Reports.{reports_of}
use Rattle.tool_objects.proofs.ElfSteps.{elf_after, elf_failed, elf_unread}
use Rattle.readelf_headers.specs.Sections.{shown_section_line}
use Rattle.readelf_headers.proofs.sections.show_rows.Goals as goal

pub returns-in-Ok : goal.returns-in-Ok
returns-in-Ok g c =
    let all = λ (o : Object). reports_of (shown_section_line o) (all_sections o) in
    elf_after g.S.Source g.O.Sink g.E.Sink all all _ c.args.elf.now _ _ c.args.outputs.now _
    c.in-Ok.ensures.elf c.show_lines.ensures (λ told. refl)

pub returns-in-Err : goal.returns-in-Err
returns-in-Err g c =
    let all = λ (o : Object). reports_of (shown_section_line o) (all_sections o) in
    elf_failed g.S.Source g.O.Sink g.E.Sink all c.in-Err.stop c.args.elf.now _ c.args.outputs.now _
    (elf_unread g.S.Source g.O.Sink g.E.Sink (Unit {0}) c.in-Err.stop all c.args.elf.now _ c.args.outputs.now
    c.in-Err.ensures)
