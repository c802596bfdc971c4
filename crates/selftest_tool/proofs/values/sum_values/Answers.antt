use Rattle.std.proofs.Common.{◌≡◌, ◌<◌, length, None, Some, sym, subst, arith}
use Rattle.std.specs.Prelude.{slice_get}
use Rattle.std.proofs.lemmas.Result.{err_from_is_err_and}
use Rattle.elf_types.specs.declared.records.Kind.TheVariants as kinds
use Rattle.elf_object.specs.Object.{Object}
use Rattle.elf_object.specs.Answers.{items_at, syms_of, lend_refusal}
use Rattle.elfkit_outcomes.proofs.tool_objects.ElfSteps.{elf_left, elf_left_then, still_told}
use Rattle.elfkit_outcomes.proofs.tool_objects.LearnLemmas.{learns_by}
use Rattle.selftest_tool.specs.Told.{value_sum}
use Rattle.selftest_tool.proofs.ValueLemmas.{sum_none, sum_next, sum_all, sum_stopped}
use Rattle.selftest_tool.proofs.values.sum_values.Goals as goal

pub loop-i-init : goal.loop-i-init
loop-i-init g c =
    let d = c.args.d in record {
      elf = elf_left g.S.Source c.args.elf.now;
      sum = λ told. sum_none (syms_of (items_at c.args.elf.now.o d.section d.piece));
      within = omega arith;
    }

pub item_there-requires-clause-passed : goal.item_there-requires-clause-passed
item_there-requires-clause-passed g c =
    let d = c.args.d in
    subst (λ (o : Object). lend_refusal o kinds.Sym d.section d.piece ≡ None)
    (sym c.loop-i.invariant.elf.object) c.requires.passed

pub item_there-requires-clause-there : goal.item_there-requires-clause-there
item_there-requires-clause-there g c =
    let d = c.args.d in
    subst (λ (o : Object). c.loop-i.i < length (syms_of (items_at o d.section d.piece)))
    (sym c.loop-i.invariant.elf.object) (omega (arith, c.loop-i-test.true, c.requires.count))

pub loop-i-preserved : goal.loop-i-preserved
loop-i-preserved g c =
    let d = c.args.d in
    let i = c.loop-i.invariant in
    let x = c.in_ok-symbol.symbol in
    let reads = c.in_ok-symbol.ensures.reads in record {
      elf =
          elf_left_then g.S.Source c.args.elf.now c.loop-i.elf c.item_there.new.elf i.elf
          reads.elf;
      sum = λ told.
          sum_next (syms_of (items_at c.args.elf.now.o d.section d.piece)) c.loop-i.i
          c.loop-i.total c.value_of-total.result x
          (subst (λ (o : Object).
          slice_get (syms_of (items_at o d.section d.piece)) c.loop-i.i ≡ Some x) i.elf.object
          (c.in_ok-symbol.ensures.value
          (still_told g.S.Source c.args.elf.now c.loop-i.elf i.elf told)))
          c.value_of-total.ensures.value (i.sum told);
      within = omega (arith, i.within, c.value_of-total.ensures.range);
    }

pub returns-in_err-symbol : goal.returns-in_err-symbol
returns-in_err-symbol g c =
    let d = c.args.d in
    let p = err_from_is_err_and c.from_residual.result c.from_residual.ensures.1 in
    rw (p.1, p.2) (sum_stopped g.S.Source
    (λ o. value_sum (syms_of (items_at o d.section d.piece))) _ c.args.elf.now c.loop-i.elf
    c.item_there.new.elf c.loop-i.invariant.elf c.in_err-symbol.ensures.reads)

pub returns : goal.returns
returns g c =
    let d = c.args.d in
    let i = c.loop-i.invariant in
    learns_by g.S.Source (λ o. value_sum (syms_of (items_at o d.section d.piece)))
    c.loop-i.total c.args.elf.now c.loop-i.elf i.elf
    (λ told. sum_all (syms_of (items_at c.args.elf.now.o d.section d.piece)) c.loop-i.i
    c.loop-i.total (omega (arith, c.requires.count, c.loop-i-test.false)) (i.sum told))
