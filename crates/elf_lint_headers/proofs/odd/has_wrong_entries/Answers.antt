use Rattle.std.proofs.Common.{sym, ap, ◌∙◌}
use Rattle.elf_types.specs.Kinds.{section_kind}
use Rattle.elf_types.specs.declared.records.Kind.{Kind}
use Rattle.elf_lint_headers.specs.Sections.{has_entries}
use Rattle.elf_lint_headers.proofs.OddLemmas.{no_entries}
use Rattle.elf_lint_headers.proofs.odd.has_wrong_entries.Goals as goal

pub returns-else-has_entries : goal.returns-else-has_entries
returns-else-has_entries g c =
    let kind = c.kind_of.ensures ∙ ap section_kind c.requires.header in
    let none = sym (ap (λ (k : Kind). has_entries k) kind) ∙ sym c.has_entries.ensures
    ∙ c.if-has_entries.false in
    c.if-has_entries.false ∙ sym (no_entries c.args.elf.now.o c.args.s.0 none)
