use Rattle.std.proofs.Common.{ℕ, refl, subst}
use Rattle.rebuild_keep.proofs.elf_update_plan.RowLaws.{told_class_is}
use Rattle.rebuild_keep.proofs.HomeLaws.{order_told}
use Rattle.rebuild_tables.specs.Finding.{AreWordsAt}
use Rattle.rebuild_tables.proofs.finding.symbol_rows.Goals as goal

pub returns-in-Some-find_syms : goal.returns-in-Some-find_syms
returns-in-Some-find_syms g c = record {
  form = record {
    class_is = told_class_is c.args.elf.now.o c.ehdr-header.result c.ehdr-header.ensures;
    order_is = order_told c.args.elf.now.o c.ehdr-header.result c.ehdr-header.ensures;
  };
  made = refl;
  syms = c.in-Some-find_syms.ensures;
  words = subst (λ (n : ℕ). AreWordsAt c.args.elf.now.o n c.in-Some.words) c.noted_at.ensures
      c.in-Some.ensures;
}
