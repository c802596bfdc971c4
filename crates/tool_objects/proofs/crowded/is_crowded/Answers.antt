use Rattle.std.proofs.Common.{arith}
use Rattle.tool_objects.proofs.LetGo.{left_first, left_next, too_long, all_fit}
use Rattle.tool_objects.proofs.SectionLemmas.{ok_value_is}
use Rattle.tool_objects.proofs.crowded.is_crowded.Goals as goal

pub loop-s-init : goal.loop-s-init
loop-s-init g c = left_first c.args.elf.now.o _ c.base_len-left.ensures

pub home_bytes-len-requires : goal.home_bytes-len-requires
home_bytes-len-requires g c =
    let count = ok_value_is _ _ c.shnum-s-end.ensures in
    omega (arith, count, c.loop-s-test.true)

pub returns-then-left-len : goal.returns-then-left-len
returns-then-left-len g c =
    let count = ok_value_is _ _ c.shnum-s-end.ensures in
    too_long c.args.elf.now.o c.loop-s.s c.loop-s.left _ (omega (arith, count, c.loop-s-test.true))
    c.loop-s.invariant c.home_bytes-len.ensures c.if-left-len.true

pub loop-s-preserved : goal.loop-s-preserved
loop-s-preserved g c =
    let count = ok_value_is _ _ c.shnum-s-end.ensures in
    left_next c.args.elf.now.o c.loop-s.s c.loop-s.left _
    (omega (arith, count, c.loop-s-test.true)) c.loop-s.invariant c.home_bytes-len.ensures
    (omega (arith, c.if-left-len.false))

pub returns : goal.returns
returns g c =
    let count = ok_value_is _ _ c.shnum-s-end.ensures in
    all_fit c.args.elf.now.o c.loop-s.s c.loop-s.left (omega (arith, count, c.loop-s-test.false))
    c.loop-s.invariant
