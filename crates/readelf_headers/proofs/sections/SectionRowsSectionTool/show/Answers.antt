use Rattle.tool_objects.proofs.ElfSteps.{elf_says, elf_unread}
use Rattle.readelf_headers.specs.Sections.{shown_section_line}
use Rattle.tool_objects.proofs.LearnLemmas.{elf_read}
use Rattle.readelf_headers.proofs.sections.SectionRowsSectionTool.show.Goals as goal

pub returns-in-Ok : goal.returns-in-Ok
unfolding shown_section_line
returns-in-Ok g c =
    elf_says g.S.Source g.O.Sink g.E.Sink (λ o. shown_section_line o c.args.s.0) _ c.args.elf.now _ c.args.outputs.now _ (elf_read g.S.Source _ _ c.args.elf.now _ c.in-Ok.is c.section_name_or_stop.follows.holds-at-none)
    (λ told. rw (← c.in-Ok.ensures.value told, ← c.section_header-header.ensures) c.show.ensures.reports) c.show.ensures.leaves

pub returns-in-Err : goal.returns-in-Err
returns-in-Err g c =
    elf_unread g.S.Source g.O.Sink g.E.Sink _ c.in-Err.stop (λ o. shown_section_line o c.args.s.0) c.args.elf.now _ c.args.outputs.now (rw c.in-Err.is at c.section_name_or_stop.follows.holds-at-none)
