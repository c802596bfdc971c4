use Rattle.std.proofs.Common.{sym, ap, ◌∙◌}
use Rattle.elf_types.specs.declared.records.Shdr.{Shdr}
use Rattle.tool_objects.specs.elf_ident.Front.{zero_shdr}
use Rattle.tool_objects.specs.elf_object.Sections.{header_at}
use Rattle.elf_lint_findings.specs.Looking.{linked_header}
use Rattle.elf_lint_findings.proofs.HeaderLemmas.{no_header}
use Rattle.elf_lint_findings.proofs.looking.linked_header.Goals as goal

pub returns-in-Err : goal.returns-in-Err
unfolding linked_header zero_shdr
returns-in-Err g c =
    let o = c.args.elf.now.o in
    no_header o c.section_header.result.link c.in-Err.field-0 (sym c.in-Err.is ∙ c.shdr.ensures)
    ∙ ap (λ (h : Shdr). header_at o h.link) c.section_header.ensures
