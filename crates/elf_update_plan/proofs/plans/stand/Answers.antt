use Rattle.std.proofs.Common.{List, length, ap, arith}
use Rattle.elf_descriptor.specs.elf_layout.declared.parts.PartAt.{PartAt}
use Rattle.elf_update_plan.proofs.PartLaws.{length-stood, stands_more, stands_all}
use Rattle.elf_update_plan.proofs.plans.stand.Goals as goal

pub stand_one-requires : goal.stand_one-requires
stand_one-requires c =
    let count = ap (λ (l : List PartAt). length l) c.loop-i.invariant in
    let long = length-stood c.args.parts.now c.args.at.now c.loop-i.i c.requires in
    omega (arith, count, long, c.requires, c.loop-i-test.true)

pub loop-i-preserved : goal.loop-i-preserved
loop-i-preserved c =
    stands_more c.args.parts.now c.loop-i.parts c.stand_one.new.parts c.args.at.now c.loop-i.i
    (omega (arith, c.requires, c.loop-i-test.true)) c.requires c.loop-i.invariant
    c.stand_one.ensures

pub returns : goal.returns
returns c =
    stands_all c.args.parts.now c.loop-i.parts c.args.at.now c.loop-i.i
    (omega (arith, c.requires, c.loop-i-test.false)) c.loop-i.invariant
