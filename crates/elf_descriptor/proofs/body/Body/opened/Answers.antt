use Rattle.std.proofs.Common.{List, length, ap, ◌∙◌, arith}
use Rattle.elf_types.specs.declared.records.Phdr.{Phdr}
use Rattle.elf_types.specs.declared.records.Shdr.{Shdr}
use Rattle.section_table.specs.Sections.{opened_scns}
use Rattle.elf_descriptor.specs.declared.body.Written.{Written}
use Rattle.elf_descriptor.specs.Begun.{begun_body, standing_front, opened_body}
use Rattle.elf_descriptor.proofs.Beginnings.{is_opened}
use Rattle.elf_descriptor.proofs.body.Body.opened.Goals as goal

pub opened-requires : goal.opened-requires
opened-requires c =
    let same = ap (λ (l : List Shdr). length l) c.in_ok-written.ensures.table in
    omega (arith, same, c.requires.shnum, c.requires.few_shdrs)

pub returns-clause-opened : goal.returns-clause-opened
unfolding opened_body
returns-clause-opened c =
    let f = c.args.front in
    let stands = c.in_ok-written.ensures.front in
    let sections = c.in_ok-sections.sections in
    is_opened f c.args.size sections _ c.requires c.in_ok-written.ensures.narrow
    (c.in_ok-sections.ensures.ok ∙ ap (opened_scns c.args.size) c.in_ok-written.ensures.table)
    (c.with_parts.ensures
    ∙ ap (λ (w : Written). begun_body c.args.size f.ehdr w c.in_ok-phdrs.phdrs sections) stands
    ∙ ap (λ (l : List Phdr). begun_body c.args.size f.ehdr (standing_front f) l sections)
    (c.in_ok-phdrs.ensures.ok ∙ c.as_slice.ensures ∙ ap (λ (w : Written). w.phdrs) stands))
