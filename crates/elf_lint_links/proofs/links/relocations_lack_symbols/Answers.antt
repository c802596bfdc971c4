use Rattle.std.proofs.Common.{◌≡◌, false, sym, ◌∙◌, subst}
use Rattle.elf_types.specs.declared.records.Shdr.{Shdr}
use Rattle.elf_lint_findings.specs.elf_object.Sections.{is_relocations}
use Rattle.elf_lint_links.proofs.LinkLemmas.{no_relocations}
use Rattle.elf_lint_links.proofs.links.relocations_lack_symbols.Goals as goal

pub returns-else-is_relocation_section : goal.returns-else-is_relocation_section
returns-else-is_relocation_section g c =
    c.if-is_relocation_section.false
    ∙ sym (no_relocations c.args.elf.now.o c.args.s.0
    (subst (λ (h : Shdr). is_relocations h ≡ false) c.requires.header
    (sym c.is_relocation_section.ensures ∙ c.if-is_relocation_section.false)))
