use Rattle.std.proofs.Common.{◌≡◌, ◌*◌, ◌+◌, ℕ, length, ap, ◌∙◌}
use Rattle.rebuild_names.specs.elf_xlate.Headers.{phdr_size}
use Rattle.elf_update_plan.proofs.RowLaws.{ok_is, told_class_is}
use Rattle.rebuild_keep.specs.Ends.{at_most_word}
use Rattle.rebuild_keep.proofs.EndLaws.{program_table_place}
use Rattle.rebuild_keep.proofs.tails.table_end.Goals as goal

pub returns : goal.returns
returns g c =
    let o = c.args.elf.now.o in
    let count : c.from.result ≡ length o.phdrs = c.from.ensures ∙ ok_is _ _ c.phnum.ensures in
    let size : c.phdr_size.result ≡ phdr_size o.header.class =
    c.phdr_size.ensures
    ∙ ap phdr_size (told_class_is o c.ehdr-header.result c.ehdr-header.ensures) in
    c.saturating_add.ensures
    ∙ ap (λ (n : ℕ). at_most_word (n + c.from.result * c.phdr_size.result))
    (program_table_place o c.ehdr-header.result c.ehdr-header.ensures)
    ∙ ap (λ (n : ℕ). at_most_word (o.header.phoff + n * c.phdr_size.result)) count
    ∙ ap (λ (n : ℕ). at_most_word (o.header.phoff + length o.phdrs * n)) size
