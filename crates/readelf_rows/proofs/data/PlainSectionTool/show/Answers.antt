use Rattle.std.proofs.Common.{sym, ap, ◌∙◌}
use Rattle.elf_types.specs.declared.records.Shdr.{Shdr}
use Rattle.tool_objects.proofs.ElfSteps.{elf_left, elf_says_none, elf_as}
use Rattle.readelf_rows.specs.Data.{plain_report, if_plain}
use Rattle.readelf_rows.proofs.DataLemmas.{plain_has, plain_has_not}
use Rattle.readelf_rows.proofs.data.PlainSectionTool.show.Goals as goal

pub returns-then-not-has : goal.returns-then-not-has
returns-then-not-has g c =
    let part = g.P.SectionPart in
    let name = c.args.self.now.name.now in
    elf_says_none g.S.Source g.O.Sink g.E.Sink (λ o. plain_report part.has name o (part.report name o) c.args.s.0) c.args.elf.now _ c.args.outputs.now (elf_left g.S.Source c.args.elf.now)
    (λ told. plain_has_not part.has name c.args.elf.now.o (part.report name c.args.elf.now.o) c.args.s.0
    (sym (c.has.ensures ∙ ap (λ (h : Shdr). part.has h.stype) c.section_header.ensures) ∙ c.if-not-has.true))

pub returns : goal.returns
returns g c =
    let part = g.P.SectionPart in
    let name = c.args.self.now.name.now in
    elf_as g.S.Source g.O.Sink g.E.Sink (λ o. if_plain name o c.args.s.0 (part.report name o c.args.s.0)) (λ o. plain_report part.has name o (part.report name o) c.args.s.0) _ c.args.elf.now _ c.args.outputs.now _
    (λ told. plain_has part.has name c.args.elf.now.o (part.report name c.args.elf.now.o) c.args.s.0
    (sym (c.has.ensures ∙ ap (λ (h : Shdr). part.has h.stype) c.section_header.ensures) ∙ c.if-not-has.false)) c.show_plain.ensures
