use Rattle.std.proofs.Common.{refl, sym, ◌∙◌}
use Rattle.rebuild_keep.proofs.elf_update_plan.RowLaws.{told_class_is}
use Rattle.rebuild_keep.proofs.HomeLaws.{order_told, there_below}
use Rattle.rebuild_tables.proofs.finding.index_rows.Goals as goal

pub find_syms-requires : goal.find_syms-requires
find_syms-requires g c =
    there_below c.args.elf.now.o c.args.link (sym c.is_there.ensures ∙ c.if-not-is_there.false)

pub returns-in-Some-find_words : goal.returns-in-Some-find_words
returns-in-Some-find_words g c = record {
  form = record {
    class_is = told_class_is c.args.elf.now.o c.ehdr-header.result c.ehdr-header.ensures;
    order_is = order_told c.args.elf.now.o c.ehdr-header.result c.ehdr-header.ensures;
  };
  made = refl;
  words = c.in-Some-find_words.ensures;
  there = sym c.is_there.ensures ∙ c.if-not-is_there.false;
  syms = c.in-Some.ensures;
}
