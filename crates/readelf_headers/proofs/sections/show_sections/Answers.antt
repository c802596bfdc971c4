use Rattle.std.proofs.Common.{length}
use Rattle.std.proofs.lemmas.Result.{err_from_is_err_and}
use Rattle.elf_object.specs.Due.{all_sections}
use Rattle.tool_output.specs.Reports.{shown_report, reports_of}
use Rattle.tool_objects.proofs.ElfSteps.{elf_left, elf_says, elf_stop, elf_failed, elf_shown_then}
use Rattle.tool_objects.proofs.SectionLemmas.{ok_value_is}
use Rattle.readelf_headers.specs.Sections.{sections_title, shown_section_line, sections_report}
use Rattle.readelf_headers.proofs.sections.show_sections.Goals as goal

pub returns-in_err-show : goal.returns-in_err-show
unfolding sections_report
returns-in_err-show g c =
    let p = err_from_is_err_and c.from_residual.result c.from_residual.ensures.1 in
    let count = ok_value_is _ _ c.shnum-count.ensures in
    rw (p.1, p.2) (elf_failed g.S.Source g.O.Sink g.E.Sink _ _ c.args.elf.now _ c.args.outputs.now _
    (elf_stop g.S.Source g.O.Sink g.E.Sink (λ o. shown_report (sections_title (length o.sections))) (λ o. reports_of (shown_section_line o) (all_sections o)) c.args.elf.now _ c.args.outputs.now _ _
    (elf_says g.S.Source g.O.Sink g.E.Sink (λ o. shown_report (sections_title (length o.sections))) _ c.args.elf.now _ c.args.outputs.now _ (elf_left g.S.Source c.args.elf.now)
    (λ told. rw (← count) (c.in_err-show.ensures.reports)) c.in_err-show.ensures.leaves)))

pub returns : goal.returns
unfolding sections_report
returns g c =
    let count = ok_value_is _ _ c.shnum-count.ensures in
    elf_shown_then g.S.Source g.O.Sink g.E.Sink (λ o. sections_title (length o.sections)) (λ o. reports_of (shown_section_line o) (all_sections o)) c.show_rows.result _
    c.args.elf.now _ _ c.args.outputs.now _ _
    (elf_says g.S.Source g.O.Sink g.E.Sink (λ o. shown_report (sections_title (length o.sections))) _ c.args.elf.now _ c.args.outputs.now _ (elf_left g.S.Source c.args.elf.now)
    (λ told. rw (← count) (c.in_ok-show.ensures.reports)) c.in_ok-show.ensures.leaves)
    c.show_rows.ensures
