use Rattle.std.proofs.Common.{◌≡◌, ◌-◌, ℕ, Ok, Err, None, length, sym, ap, subst, arith}
use Rattle.symbol_lookup.specs.elf_object.Object.{Object}
use Rattle.symbol_lookup.specs.elf_object.Answers.{count_at}
use Rattle.symbol_lookup.specs.hash_model.Reordered.{reorder_refusal}
use Rattle.hash_build.specs.Rows.{IsOrder}
use Rattle.hash_order.specs.Calls.{all_homes}
use Rattle.hash_order.specs.Reading.{ReadsHomes}
use Rattle.hash_order.proofs.CheckLaws.{count_is}
use Rattle.hash_order.proofs.PlanLaws.{none_planned, more_planned, is_plan, plan_ready}
use Rattle.hash_order.proofs.ReadLaws.{homes_nothing, homes_both}
use Rattle.hash_order.proofs.planning.plan_sections.Goals as goal

pub plan_next-requires-clause-there : goal.plan_next-requires-clause-there
plan_next-requires-clause-there g c =
    let count = count_is c.shnum-shnum.result _ c.shnum-shnum.ensures in
    let same = ap (λ (o : Object). length o.sections) c.loop-done.invariant.reads.object in
    omega (arith, count, same, c.loop-done-test.true)

pub plan_next-requires-clause-passed : goal.plan_next-requires-clause-passed
plan_next-requires-clause-passed g c =
    subst (λ (o : Object). reorder_refusal o c.args.s.0 ≡ None)
    (sym c.loop-done.invariant.reads.object) c.requires.passed

pub plan_next-requires-clause-order : goal.plan_next-requires-clause-order
plan_next-requires-clause-order g c =
    subst (λ (o : Object). IsOrder c.args.order.now (count_at o c.args.s.0 0))
    (sym c.loop-done.invariant.reads.object) c.requires.order

pub loop-done-init : goal.loop-done-init
loop-done-init g c = record {
  planned = none_planned c.args.elf.now c.args.s.0 c.args.order.now c.args.plan.now.items
      c.requires.none;
  reads = homes_nothing g.S.Source (all_homes c.args.elf.now.o c.args.s.0) (tt {0})
      c.args.elf.now;
}

pub loop-done-preserved : goal.loop-done-preserved
loop-done-preserved g c =
    let inv = c.loop-done.invariant in
    let s = c.args.s.0 in
    let count = count_is c.shnum-shnum.result _ c.shnum-shnum.ensures in
    let reads : ReadsHomes g.S.Source (all_homes c.args.elf.now.o c.args.s.0) (Ok (tt {0}))
    c.loop-done.elf c.plan_next.new.elf =
    subst (λ (o : Object). ReadsHomes g.S.Source (all_homes o s) (Ok (tt {0})) c.loop-done.elf
    c.plan_next.new.elf) inv.reads.object c.in-Ok.ensures.reads in
    record {
      planned = more_planned c.args.elf.now s c.args.order.now g.S.Source
          (all_homes c.args.elf.now.o s) (Ok (tt {0})) c.loop-done.elf c.plan_next.new.elf
          c.loop-done.done (c.shnum-shnum.result - 1 - c.loop-done.done) c.loop-done.plan.items
          c.plan_next.new.plan.items inv.reads.object inv.reads.reads.told
          (ap (λ (n : ℕ). n - 1 - c.loop-done.done) count) reads inv.planned
          c.in-Ok.ensures.appends;
      reads = homes_both g.S.Source (all_homes c.args.elf.now.o s) (tt {0}) (Ok (tt {0}))
          c.args.elf.now c.loop-done.elf c.plan_next.new.elf inv.reads reads;
    }

pub returns-in-Err-clause-reads : goal.returns-in-Err-clause-reads
returns-in-Err-clause-reads g c =
    let inv = c.loop-done.invariant in
    let s = c.args.s.0 in
    homes_both g.S.Source (all_homes c.args.elf.now.o s) (tt {0}) (Err c.in-Err.e)
    c.args.elf.now c.loop-done.elf c.plan_next.new.elf inv.reads
    (subst (λ (o : Object). ReadsHomes g.S.Source (all_homes o s) (Err c.in-Err.e)
    c.loop-done.elf c.plan_next.new.elf) inv.reads.object c.in-Err.ensures.reads)

pub returns-clause-plan : goal.returns-clause-plan
returns-clause-plan g c =
    let count = count_is c.shnum-shnum.result _ c.shnum-shnum.ensures in
    is_plan c.args.elf.now c.args.s.0 c.args.order.now c.loop-done.elf c.loop-done.done
    c.loop-done.plan.items (omega (arith, count, c.loop-done-test.false, c.loop-done.auto.done-end))
    c.loop-done.invariant.planned

pub returns-clause-ready : goal.returns-clause-ready
returns-clause-ready g c =
    let count = count_is c.shnum-shnum.result _ c.shnum-shnum.ensures in
    plan_ready c.args.elf.now c.args.s.0 c.args.order.now c.loop-done.elf c.loop-done.done
    c.loop-done.plan.items (omega (arith, count, c.loop-done-test.false, c.loop-done.auto.done-end))
    c.loop-done.invariant.planned c.loop-done.invariant.reads.object

pub returns-clause-reads : goal.returns-clause-reads
returns-clause-reads g c = c.loop-done.invariant.reads
