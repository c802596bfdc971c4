use Rattle.std.proofs.Common.{refl}
use Rattle.elf_types.specs.declared.records.Kind.TheVariants as kinds
use Rattle.elf_object.specs.Answers.{syms_of}
use Rattle.elf_descriptor.proofs.LendLaws.{lent_entry, stored_read}
use Rattle.test_descriptor.proofs.callers.lending.store_first.Goals as goal

pub returns : goal.returns
returns g c = record {
  stored = λ told.
      stored_read c.in_ok-syms.syms.now c.as_mut_slice.result.now 0 c.args.sym c.item.result c.as_mut_slice.ensures.value
      (lent_entry g.S.Source c.syms_mut.result kinds.Sym syms_of c.args.elf.now _ c.args.d.section c.args.d.piece 0 _ _ c.item.result (c.syms_mut.follows.holds _ (rw c.in_ok-syms.was refl)) told c.item.ensures.answer);
}
