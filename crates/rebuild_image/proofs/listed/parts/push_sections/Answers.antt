use Rattle.std.proofs.Common.{sym, arith}
use Rattle.std.proofs.lemmas.List.{append-nil}
use Rattle.elf_update_plan.proofs.PartLaws.{sections_more, sections_all}
use Rattle.rebuild_image.proofs.listed.parts.push_sections.Goals as goal

pub loop-s-init : goal.loop-s-init
loop-s-init c = record {
  parts = λ o is. sym (append-nil c.args.parts.now);
  within = omega arith;
}

pub loop-s-preserved : goal.loop-s-preserved
loop-s-preserved c = record {
  parts = λ o is.
      sections_more o c.args.parts.now c.loop-s.parts c.loop-s.s c.loop-s.auto.s
      (c.loop-s.invariant.parts o is) c.push.new.self
      (rw (← c.section_part.ensures o is) c.in_ok-push.ensures.ok);
  within = omega (arith, c.loop-s-test.true);
}

pub returns-clause-ok : goal.returns-clause-ok
returns-clause-ok c = λ o is.
    let count = is.count in
    let listed = c.len-count.ensures in
    sections_all o c.args.parts.now c.loop-s.parts c.loop-s.s c.loop-s.auto.s
    (c.loop-s.invariant.parts o is)
    (omega (arith, count, listed, c.loop-s.invariant.within))
    (omega (arith, count, listed, c.loop-s-test.false))
    (λ some. omega (arith, count, listed, some, c.loop-s.auto.s-end))
