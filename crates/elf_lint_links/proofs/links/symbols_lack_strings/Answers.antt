use Rattle.std.proofs.Common.{◌≡◌, false, sym, ◌∙◌, subst}
use Rattle.elf_types.specs.declared.records.Shdr.{Shdr}
use Rattle.elf_lint_findings.specs.Looking.{is_symbol_table}
use Rattle.elf_lint_links.proofs.LinkLemmas.{no_symbols}
use Rattle.elf_lint_links.proofs.links.symbols_lack_strings.Goals as goal

pub returns-else-is_symbol_table_header : goal.returns-else-is_symbol_table_header
returns-else-is_symbol_table_header g c =
    c.if-is_symbol_table_header.false
    ∙ sym (no_symbols c.args.elf.now.o c.args.s.0
    (subst (λ (h : Shdr). is_symbol_table h ≡ false) c.requires.header
    (sym c.is_symbol_table_header.ensures ∙ c.if-is_symbol_table_header.false)))
