use Rattle.std.proofs.Common.{◌≡◌, false, sym, ◌∙◌, subst}
use Rattle.elf_types.specs.declared.records.Shdr.{Shdr}
use Rattle.elf_lint_links.specs.Links.{goes_by_symbols}
use Rattle.elf_lint_links.proofs.LinkLemmas.{no_hashes}
use Rattle.elf_lint_links.proofs.links.hashes_lack_symbols.Goals as goal

pub returns-else-goes_by_symbols : goal.returns-else-goes_by_symbols
returns-else-goes_by_symbols g c =
    c.if-goes_by_symbols.false
    ∙ sym (no_hashes c.args.elf.now.o c.args.s.0
    (subst (λ (h : Shdr). goes_by_symbols h ≡ false) c.requires.header
    (sym c.goes_by_symbols.ensures ∙ c.if-goes_by_symbols.false)))
