use Rattle.std.proofs.Common.{◌<◌, ℕ, sym, subst}
use Rattle.elf_types.specs.declared.records.Kind.TheVariants as kinds
use Rattle.elf_xlate.proofs.ListedItems.{word_sized}
use Rattle.rebuild_keep.proofs.elf_update_plan.RowLaws.{told_class_is}
use Rattle.rebuild_tables.proofs.FindLaws.{items_found}
use Rattle.rebuild_tables.proofs.finding.find_words.Goals as goal

pub find_table-requires-clause-some : goal.find_table-requires-clause-some
find_table-requires-clause-some g c =
    subst (λ (n : ℕ). 0 < n) (sym c.item_size.ensures) (word_sized c.ehdr-header.result.class)

pub returns : goal.returns
returns g c =
    items_found c.args.elf.now.o c.args.s.0 c.item_size.result kinds.Word
    c.ehdr-header.result.class c.find_table.result
    (c.holds_words.ensures c.if-not-holds_words.false)
    (told_class_is c.args.elf.now.o c.ehdr-header.result c.ehdr-header.ensures) c.item_size.ensures
    c.find_table.ensures
