use Rattle.std.proofs.Common.{below_more, sym, ◌∙◌, arith}
use Rattle.rebuild_join.proofs.rebuild_select.NameLaws.{ok_injective}
use Rattle.unstrip_tool.proofs.AllocatedLemmas.{lost_first, lost_none}
use Rattle.unstrip_tool.proofs.allocated.first_allocated.Goals as goal

pub is_lost-requires : goal.is_lost-requires
is_lost-requires g c = omega (arith, ok_injective _ _ c.shnum-s-end.ensures, c.loop-s-test.true)

pub returns-then-is_lost : goal.returns-then-is_lost
returns-then-is_lost g c =
    lost_first c.args.elf.now.o c.args.removed.now c.requires c.loop-s.s
    (omega (arith, ok_injective _ _ c.shnum-s-end.ensures, c.loop-s-test.true)) c.loop-s.invariant
    (sym c.is_lost.ensures ∙ c.if-is_lost.true)

pub loop-s-preserved : goal.loop-s-preserved
loop-s-preserved g c =
    below_more _ _ c.loop-s.invariant (sym c.is_lost.ensures ∙ c.if-is_lost.false)

pub returns : goal.returns
returns g c =
    lost_none c.args.elf.now.o c.args.removed.now c.requires c.loop-s.s
    (omega (arith, ok_injective _ _ c.shnum-s-end.ensures, c.loop-s-test.false)) c.loop-s.invariant
