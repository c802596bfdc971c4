use Rattle.std.proofs.Common.{◌≡◌, false, refl, sym, ap, ◌∙◌, arith}
use Rattle.tool_objects.proofs.ElfSteps.{elf_left, elf_as, elf_over, elf_says}
use Rattle.tool_objects.proofs.SectionLemmas.{ok_value_is}
use Rattle.readelf_tool.specs.declared.parts.Letter.{Letter}
use Rattle.readelf_tool.specs.declared.parts.Letter.TheVariants as letters
use Rattle.readelf_headers.specs.Sections.{sections_report}
use Rattle.readelf_tables.specs.Symbols.{symbols_report}
use Rattle.readelf_tables.specs.Relocations.{relocations_report}
use Rattle.readelf_tables.specs.Dynamic.{dynamic_report}
use Rattle.readelf_chains.specs.Notes.{notes_report}
use Rattle.readelf_tool.specs.Versions.{versions_report}
use Rattle.readelf_tool.specs.Parts.{reads_sections, letter_report}
use Rattle.readelf_tool.proofs.PartLemmas.{once_at}
use Rattle.readelf_tool.proofs.parts.show_letter.Goals as goal

pub returns-in-Header-clause-reports : goal.returns-in-Header-clause-reports
unfolding letter_report
returns-in-Header-clause-reports g c =
    let name = c.args.name.now in
    elf_over g.S.Source g.O.Sink g.E.Sink 0 _ _ _ c.args.elf.now _ c.args.outputs.now _ (omega arith)
    (elf_says g.S.Source g.O.Sink g.E.Sink (letter_report c.args.letter name) _ c.args.elf.now _ c.args.outputs.now _ (elf_left g.S.Source c.args.elf.now)
    (λ told. rw (c.in-Header.is, ← ok_value_is _ _ c.ehdr.ensures) c.show_header.ensures.reports) c.show_header.ensures.leaves)

pub returns-in-Segments-clause-reports : goal.returns-in-Segments-clause-reports
unfolding letter_report
returns-in-Segments-clause-reports g c =
    let name = c.args.name.now in
    elf_over g.S.Source g.O.Sink g.E.Sink 0 _ _ _ c.args.elf.now _ c.args.outputs.now _ (omega arith)
    (elf_says g.S.Source g.O.Sink g.E.Sink (letter_report c.args.letter name) _ c.args.elf.now _ c.args.outputs.now _ (elf_left g.S.Source c.args.elf.now)
    (λ told. rw c.in-Segments.is c.show_segments.ensures.reports) c.show_segments.ensures.leaves)

pub returns-in-Sections-clause-reports : goal.returns-in-Sections-clause-reports
unfolding letter_report reads_sections
returns-in-Sections-clause-reports g c =
    let name = c.args.name.now in
    elf_over g.S.Source g.O.Sink g.E.Sink 1 _ _ _ c.args.elf.now _ c.args.outputs.now _
    (once_at c.args.letter letters.Sections c.in-Sections.is refl)
    (elf_as g.S.Source g.O.Sink g.E.Sink sections_report (letter_report c.args.letter name) _ c.args.elf.now _ c.args.outputs.now _
    (λ told. ap (λ (l : Letter). letter_report l name c.args.elf.now.o) c.in-Sections.is) c.show_sections.ensures)

pub returns-in-Sections-clause-unread : goal.returns-in-Sections-clause-unread
unfolding reads_sections
returns-in-Sections-clause-unread g c = λ off. let no : reads_sections letters.Sections ≡ false = sym (ap reads_sections c.in-Sections.is) ∙ off in cc

pub returns-in-Symbols-clause-reports : goal.returns-in-Symbols-clause-reports
unfolding letter_report reads_sections
returns-in-Symbols-clause-reports g c =
    let name = c.args.name.now in
    elf_over g.S.Source g.O.Sink g.E.Sink 1 _ _ _ c.args.elf.now _ c.args.outputs.now _
    (once_at c.args.letter letters.Symbols c.in-Symbols.is refl)
    (elf_as g.S.Source g.O.Sink g.E.Sink (symbols_report name) (letter_report c.args.letter name) _ c.args.elf.now _ c.args.outputs.now _
    (λ told. ap (λ (l : Letter). letter_report l name c.args.elf.now.o) c.in-Symbols.is) c.show_symbols.ensures)

pub returns-in-Symbols-clause-unread : goal.returns-in-Symbols-clause-unread
unfolding reads_sections
returns-in-Symbols-clause-unread g c = λ off. let no : reads_sections letters.Symbols ≡ false = sym (ap reads_sections c.in-Symbols.is) ∙ off in cc

pub returns-in-Relocations-clause-reports : goal.returns-in-Relocations-clause-reports
unfolding letter_report reads_sections
returns-in-Relocations-clause-reports g c =
    let name = c.args.name.now in
    elf_over g.S.Source g.O.Sink g.E.Sink 1 _ _ _ c.args.elf.now _ c.args.outputs.now _
    (once_at c.args.letter letters.Relocations c.in-Relocations.is refl)
    (elf_as g.S.Source g.O.Sink g.E.Sink (relocations_report name) (letter_report c.args.letter name) _ c.args.elf.now _ c.args.outputs.now _
    (λ told. ap (λ (l : Letter). letter_report l name c.args.elf.now.o) c.in-Relocations.is) c.show_relocations.ensures)

pub returns-in-Relocations-clause-unread : goal.returns-in-Relocations-clause-unread
unfolding reads_sections
returns-in-Relocations-clause-unread g c = λ off. let no : reads_sections letters.Relocations ≡ false = sym (ap reads_sections c.in-Relocations.is) ∙ off in cc

pub returns-in-Dynamic-clause-reports : goal.returns-in-Dynamic-clause-reports
unfolding letter_report reads_sections
returns-in-Dynamic-clause-reports g c =
    let name = c.args.name.now in
    elf_over g.S.Source g.O.Sink g.E.Sink 1 _ _ _ c.args.elf.now _ c.args.outputs.now _
    (once_at c.args.letter letters.Dynamic c.in-Dynamic.is refl)
    (elf_as g.S.Source g.O.Sink g.E.Sink (dynamic_report name) (letter_report c.args.letter name) _ c.args.elf.now _ c.args.outputs.now _
    (λ told. ap (λ (l : Letter). letter_report l name c.args.elf.now.o) c.in-Dynamic.is) c.show_dynamic.ensures)

pub returns-in-Dynamic-clause-unread : goal.returns-in-Dynamic-clause-unread
unfolding reads_sections
returns-in-Dynamic-clause-unread g c = λ off. let no : reads_sections letters.Dynamic ≡ false = sym (ap reads_sections c.in-Dynamic.is) ∙ off in cc

pub returns-in-Notes-clause-reports : goal.returns-in-Notes-clause-reports
unfolding letter_report reads_sections
returns-in-Notes-clause-reports g c =
    let name = c.args.name.now in
    elf_over g.S.Source g.O.Sink g.E.Sink 1 _ _ _ c.args.elf.now _ c.args.outputs.now _
    (once_at c.args.letter letters.Notes c.in-Notes.is refl)
    (elf_as g.S.Source g.O.Sink g.E.Sink (notes_report name) (letter_report c.args.letter name) _ c.args.elf.now _ c.args.outputs.now _
    (λ told. ap (λ (l : Letter). letter_report l name c.args.elf.now.o) c.in-Notes.is) c.show_notes.ensures)

pub returns-in-Notes-clause-unread : goal.returns-in-Notes-clause-unread
unfolding reads_sections
returns-in-Notes-clause-unread g c = λ off. let no : reads_sections letters.Notes ≡ false = sym (ap reads_sections c.in-Notes.is) ∙ off in cc

pub returns-in-Versions-clause-reports : goal.returns-in-Versions-clause-reports
unfolding letter_report reads_sections
returns-in-Versions-clause-reports g c =
    let name = c.args.name.now in
    elf_over g.S.Source g.O.Sink g.E.Sink 1 _ _ _ c.args.elf.now _ c.args.outputs.now _
    (once_at c.args.letter letters.Versions c.in-Versions.is refl)
    (elf_as g.S.Source g.O.Sink g.E.Sink (versions_report name) (letter_report c.args.letter name) _ c.args.elf.now _ c.args.outputs.now _
    (λ told. ap (λ (l : Letter). letter_report l name c.args.elf.now.o) c.in-Versions.is) c.show_versions.ensures)

pub returns-in-Versions-clause-unread : goal.returns-in-Versions-clause-unread
unfolding reads_sections
returns-in-Versions-clause-unread g c = λ off. let no : reads_sections letters.Versions ≡ false = sym (ap reads_sections c.in-Versions.is) ∙ off in cc
