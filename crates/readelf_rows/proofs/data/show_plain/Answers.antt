use Rattle.std.proofs.Common.{sym, ap, ◌∙◌}
use Rattle.elf_types.specs.declared.records.Shdr.{Shdr}
use Rattle.elf_types.specs.Kinds.{is_compressed}
use Rattle.tool_objects.proofs.ElfSteps.{elf_left, elf_says, elf_as}
use Rattle.readelf_rows.specs.Data.{if_plain}
use Rattle.readelf_rows.proofs.DataLemmas.{plain_out, plain_compressed, plain_lines}
use Rattle.readelf_rows.proofs.data.show_plain.Goals as goal

pub returns-then-is_out : goal.returns-then-is_out
returns-then-is_out g c =
    let report = g.P.SectionPart.report c.args.name.now in
    elf_says g.S.Source g.O.Sink g.E.Sink (λ o. if_plain c.args.name.now o c.args.s.0 (report o c.args.s.0)) _ c.args.elf.now _ c.args.outputs.now _ (elf_left g.S.Source c.args.elf.now)
    (λ told. rw (plain_out c.args.name.now c.args.elf.now.o c.args.s.0 (report c.args.elf.now.o c.args.s.0) (sym c.is_out.ensures ∙ c.if-is_out.true)) c.refuse.ensures.reports) c.refuse.ensures.leaves

pub returns-then-is_compressed : goal.returns-then-is_compressed
returns-then-is_compressed g c =
    let report = g.P.SectionPart.report c.args.name.now in
    elf_says g.S.Source g.O.Sink g.E.Sink (λ o. if_plain c.args.name.now o c.args.s.0 (report o c.args.s.0)) _ c.args.elf.now _ c.args.outputs.now _ (elf_left g.S.Source c.args.elf.now)
    (λ told. rw (plain_compressed c.args.name.now c.args.elf.now.o c.args.s.0 (report c.args.elf.now.o c.args.s.0) (sym c.is_out.ensures ∙ c.if-is_out.false)
    (sym (c.is_compressed.ensures ∙ ap (λ (h : Shdr). is_compressed h.flags) c.section_header.ensures) ∙ c.if-is_compressed.true)) c.refuse-then-is_compressed.ensures.reports) c.refuse-then-is_compressed.ensures.leaves

pub returns : goal.returns
returns g c =
    let report = g.P.SectionPart.report c.args.name.now in
    elf_as g.S.Source g.O.Sink g.E.Sink (λ o. report o c.args.s.0) (λ o. if_plain c.args.name.now o c.args.s.0 (report o c.args.s.0)) _ c.args.elf.now _ c.args.outputs.now _
    (λ told. plain_lines c.args.name.now c.args.elf.now.o c.args.s.0 (report c.args.elf.now.o c.args.s.0) (sym c.is_out.ensures ∙ c.if-is_out.false)
    (sym (c.is_compressed.ensures ∙ ap (λ (h : Shdr). is_compressed h.flags) c.section_header.ensures) ∙ c.if-is_compressed.false)) c.show.ensures
