use Rattle.std.proofs.Common.{arith}
use Rattle.c_calls.specs.Editing.From.{shdr_from_record}
use Rattle.c_calls.proofs.layout.ListLaws.{one_mapped, all_mapped}
use Rattle.c_calls.proofs.layout.headers.list_sections.Goals as goal

pub loop-h-init : goal.loop-h-init
loop-h-init c = c.in_ok-list.ensures.ok

pub loop-h-preserved : goal.loop-h-preserved
loop-h-preserved c =
    one_mapped shdr_from_record c.args.shdrs.now c.loop-h.list _ c.loop-h.h-index _
    c.shdr_from.result c.loop-h-test.true c.loop-h.invariant c.shdr_from.ensures
    c.in_ok-push.ensures.ok

pub returns-clause-ok : goal.returns-clause-ok
returns-clause-ok c =
    all_mapped shdr_from_record c.args.shdrs.now c.loop-h.list c.loop-h.h-index
    (omega (arith, c.loop-h-test.false)) c.loop-h.invariant
