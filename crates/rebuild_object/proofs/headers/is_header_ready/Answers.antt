use Rattle.std.proofs.Common.{sym, ◌∙◌, inl, inr}
use Rattle.std.proofs.lemmas.Bool.{eqb-true, ltb-true}
use Rattle.rebuild_plan.proofs.rebuild_keep.HomeLaws.{class_told, order_told}
use Rattle.rebuild_object.proofs.headers.is_header_ready.Goals as goal

pub returns-then-h-eq0 : goal.returns-then-h-eq0
returns-then-h-eq0 g c = λ none. record {
  ehdr = c.ehdr_is_ranged.ensures;
  class = c.is_same_class.ensures c.if-not-is_same_class.false
      ∙ class_told c.args.elf.now.o c.ehdr-old.result c.ehdr-old.ensures;
  order = c.is_same_order.ensures c.if-not-is_same_order.false
      ∙ order_told c.args.elf.now.o c.ehdr-old.result c.ehdr-old.ensures;
  new = c.is_new_header.ensures c.if-not-is_new_header.false;
  phnum = c.has_counts.ensures.phnum c.if-not-has_counts.false;
  shnum = c.has_counts.ensures.shnum c.if-not-has_counts.false;
  fits = sym c.ehdr_fits.ensures ∙ c.if-not-ehdr_fits.false;
  index = inl (eqb-true c.args.h.now.shstrndx 0 none);
}

pub returns-else-h-eq0 : goal.returns-else-h-eq0
returns-else-h-eq0 g c = λ below. record {
  ehdr = c.ehdr_is_ranged.ensures;
  class = c.is_same_class.ensures c.if-not-is_same_class.false
      ∙ class_told c.args.elf.now.o c.ehdr-old.result c.ehdr-old.ensures;
  order = c.is_same_order.ensures c.if-not-is_same_order.false
      ∙ order_told c.args.elf.now.o c.ehdr-old.result c.ehdr-old.ensures;
  new = c.is_new_header.ensures c.if-not-is_new_header.false;
  phnum = c.has_counts.ensures.phnum c.if-not-has_counts.false;
  shnum = c.has_counts.ensures.shnum c.if-not-has_counts.false;
  fits = sym c.ehdr_fits.ensures ∙ c.if-not-ehdr_fits.false;
  index = inr (ltb-true c.args.h.now.shstrndx c.args.count below);
}
