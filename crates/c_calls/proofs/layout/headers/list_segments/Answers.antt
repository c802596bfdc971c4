use Rattle.std.proofs.Common.{arith}
use Rattle.c_calls.specs.Editing.From.{phdr_from_record}
use Rattle.c_calls.proofs.layout.ListLaws.{one_mapped, all_mapped}
use Rattle.c_calls.proofs.layout.headers.list_segments.Goals as goal

pub loop-p-init : goal.loop-p-init
loop-p-init c = c.in_ok-list.ensures.ok

pub loop-p-preserved : goal.loop-p-preserved
loop-p-preserved c =
    one_mapped phdr_from_record c.args.phdrs.now c.loop-p.list _ c.loop-p.p-index _
    c.phdr_from.result c.loop-p-test.true c.loop-p.invariant c.phdr_from.ensures
    c.in_ok-push.ensures.ok

pub returns-clause-ok : goal.returns-clause-ok
returns-clause-ok c =
    all_mapped phdr_from_record c.args.phdrs.now c.loop-p.list c.loop-p.p-index
    (omega (arith, c.loop-p-test.false)) c.loop-p.invariant
