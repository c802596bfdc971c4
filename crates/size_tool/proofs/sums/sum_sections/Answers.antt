use Rattle.std.proofs.Common.{◌^◌, arith}
use Rattle.tool_objects.proofs.SectionLemmas.{ok_value_is}
use Rattle.size_tool.proofs.SumLemmas.{within_more, sums_next, sums_all}
use Rattle.size_tool.proofs.sums.sum_sections.Goals as goal

pub loop-s-init : goal.loop-s-init
loop-s-init g c = record {
  sums = c.no_sums-sums.ensures.sums;
  within = c.no_sums-sums.ensures.within;
}

pub with_section-sums-requires : goal.with_section-sums-requires
with_section-sums-requires g c =
    within_more c.loop-s.s (2 ^ 32) c.loop-s.sums (omega arith) c.loop-s.invariant.within

pub loop-s-preserved : goal.loop-s-preserved
loop-s-preserved g c =
    let count = ok_value_is _ _ c.shnum-s-end.ensures in
    record {
      sums =
          sums_next c.args.elf.now.o c.loop-s.s _ c.loop-s.sums _
          (omega (arith, count, c.loop-s-test.true)) c.section_header.ensures
          c.loop-s.invariant.sums c.with_section-sums.ensures.sums;
      within = c.with_section-sums.ensures.within c.loop-s.s c.loop-s.invariant.within;
    }

pub returns-clause-sums : goal.returns-clause-sums
returns-clause-sums g c =
    let count = ok_value_is _ _ c.shnum-s-end.ensures in
    sums_all c.args.elf.now.o.sections c.loop-s.s c.loop-s.sums
    (omega (arith, count, c.loop-s-test.false)) c.loop-s.invariant.sums

pub returns-clause-within : goal.returns-clause-within
returns-clause-within g c =
    within_more c.loop-s.s (2 ^ 32) c.loop-s.sums (omega arith) c.loop-s.invariant.within
