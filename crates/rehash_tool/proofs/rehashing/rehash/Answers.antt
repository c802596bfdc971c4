use Rattle.std.proofs.Common.{false, Ok, Result, refl, sym, subst}
use Rattle.elf_object.specs.Object.{Object}
use Rattle.rebuild_model.specs.Rehashed.{RehashFault}
use Rattle.rehash_tool.specs.Steps.{AreHashSectionsRebuilt}
use Rattle.rehash_tool.proofs.StepLemmas.{keeps_none}
use Rattle.rehash_tool.proofs.RehashLemmas.{no_table, one_table}
use Rattle.rehash_tool.proofs.rehashing.rehash.Goals as goal

pub returns-in-Some : goal.returns-in-Some
returns-in-Some g c = record {
  keeps = c.rehash_at.ensures.keeps;
  rehashed = λ told.
      subst (λ (r : Result Object RehashFault).
      AreHashSectionsRebuilt c.rehash_at.result r c.rehash_at.new.elf.o)
      (sym (one_table c.args.elf.now.o c.in-Some.s c.gnu_section-gnu.result
      c.sysv_section-words.result c.in-Some.ensures c.gnu_section-gnu.ensures
      c.sysv_section-words.ensures))
      (c.rehash_at.ensures.rehashed told);
  none = c.rehash_at.ensures.none;
}

pub returns-in-None : goal.returns-in-None
returns-in-None g c = record {
  keeps = keeps_none g.S.Source (Ok false) c.args.elf.now tt;
  rehashed = λ told. no_table c.args.elf.now.o c.in-None.ensures;
  none = λ is. refl;
}
