use Rattle.std.proofs.Common.{sym, ◌∙◌, arith}
use Rattle.elf_update_plan.proofs.RowLaws.{ok_is}
use Rattle.test_descriptor.specs.Callers.Ranges.{StaysOver}
use Rattle.test_descriptor.proofs.callers.RangeLemmas.{none_below, one_more, each_is, absent_over}
use Rattle.test_descriptor.proofs.callers.ranges.may_write.Goals as goal

pub loop-s-init : goal.loop-s-init
loop-s-init g c = none_below (StaysOver c.args.elf.now c.args.at c.args.n)

pub loop-s-preserved : goal.loop-s-preserved
loop-s-preserved g c =
    one_more (StaysOver c.args.elf.now c.args.at c.args.n) c.loop-s.s c.loop-s.invariant
    (c.stays_over.ensures c.if-not-stays_over.false)

pub returns : goal.returns
returns g c = λ is. record {
  marked = sym c.is_marked.ensures ∙ is;
  homes = each_is (StaysOver c.args.elf.now c.args.at c.args.n) _ c.loop-s.s
      (omega (arith, c.loop-s-test.false, ok_is _ _ c.shnum-s-end.ensures)) c.loop-s.invariant
      (absent_over c.args.elf.now c.args.at c.args.n);
}
