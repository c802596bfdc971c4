use Rattle.std.proofs.Common.{length, arith}
use Rattle.symbol_lookup.specs.hash_model.Reordered.{reorder_refusal_of}
use Rattle.hash_order.proofs.CheckLaws.{check_begins, goes_on, ends_refused, ends_passed, count_is}
use Rattle.hash_order.proofs.checks.check_sections.Goals as goal

pub loop-n-init : goal.loop-n-init
loop-n-init g c =
    check_begins (reorder_refusal_of c.args.elf.now.o c.args.s.0)
    (length c.args.elf.now.o.sections)

pub check_section-requires-clause-there : goal.check_section-requires-clause-there
check_section-requires-clause-there g c =
    let count = count_is c.shnum-shnum.result _ c.shnum-shnum.ensures in
    omega (arith, count, c.loop-n-test.true)

pub loop-n-preserved : goal.loop-n-preserved
loop-n-preserved g c =
    let count = count_is c.shnum-shnum.result _ c.shnum-shnum.ensures in
    goes_on (reorder_refusal_of c.args.elf.now.o c.args.s.0) (length c.args.elf.now.o.sections)
    c.loop-n.n (omega (arith, count, c.loop-n-test.true)) c.loop-n.invariant c.in-Ok.ensures

pub returns-in-Err : goal.returns-in-Err
returns-in-Err g c =
    let count = count_is c.shnum-shnum.result _ c.shnum-shnum.ensures in
    ends_refused (reorder_refusal_of c.args.elf.now.o c.args.s.0)
    (length c.args.elf.now.o.sections) c.loop-n.n c.in-Err.e
    (omega (arith, count, c.loop-n-test.true)) c.loop-n.invariant c.in-Err.ensures

pub returns : goal.returns
returns g c =
    let count = count_is c.shnum-shnum.result _ c.shnum-shnum.ensures in
    ends_passed (reorder_refusal_of c.args.elf.now.o c.args.s.0)
    (length c.args.elf.now.o.sections) c.loop-n.n (omega (arith, count, c.loop-n-test.false))
    c.loop-n.invariant
