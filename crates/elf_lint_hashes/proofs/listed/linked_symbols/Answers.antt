use Rattle.std.proofs.Common.{sym, ap, ◌∙◌}
use Rattle.elf_types.specs.declared.records.Shdr.{Shdr}
use Rattle.hash_model.specs.elf_object.Sections.{header_at}
use Rattle.elf_lint_findings.specs.Looking.{linked_header}
use Rattle.elf_lint_hashes.proofs.ListedLemmas.{names_counted}
use Rattle.elf_lint_hashes.proofs.listed.linked_symbols.Goals as goal

pub returns-in-Ok-clause-listed : goal.returns-in-Ok-clause-listed
unfolding linked_header
returns-in-Ok-clause-listed g c =
    let o = c.args.elf.now.o in
    let s = c.section_header.result.link in
    let counted = names_counted o s c.in-Ok.count c.in-Ok.ensures.answer in record {
      passed = counted.0;
      count = counted.1;
      strings = ap (λ (h : Shdr). h.link) c.linked_header-linked.ensures ∙ ap (λ (h : Shdr). (header_at o h.link).link) (sym c.section_header.ensures);
    }
