use Rattle.std.proofs.Common.{arith}
use Rattle.tool_objects.proofs.SectionLemmas.{ok_value_is}
use Rattle.elf_lint_headers.proofs.PartLemmas.{homes_more, homes_all}
use Rattle.elf_lint_headers.proofs.layout.push_homes.Goals as goal

pub loop-s-preserved : goal.loop-s-preserved
loop-s-preserved g c = record {
  parts = homes_more c.args.elf.now.o c.args.parts.now c.loop-s.parts c.loop-s.s c.loop-s.auto.s c.loop-s.invariant.parts c.push.new.self
      (rw (← c.home_part.ensures) c.in_ok-push.ensures.ok);
  within = omega (arith, c.loop-s-test.true);
}

pub returns-clause-ok : goal.returns-clause-ok
returns-clause-ok g c =
    let count = ok_value_is _ _ c.shnum-s-end.ensures in
    homes_all c.args.elf.now.o c.args.parts.now c.loop-s.parts c.loop-s.s c.loop-s.auto.s c.loop-s.invariant.parts
    (omega (arith, count, c.loop-s.invariant.within)) (omega (arith, count, c.loop-s-test.false)) (λ some. omega (arith, count, some, c.loop-s.auto.s-end))
