use Rattle.elf_update_to.proofs.UpdateLaws.{wants_passed}
use Rattle.rebuild_image.specs.declared.holding.FrontRanges.{FrontRanges}
use Rattle.rebuild_image.proofs.StoredLaws.{streamed_of, not_held}
use Rattle.rebuild_image.proofs.UnreadLaws.{wanted_unread}
use Rattle.rebuild_image.proofs.streaming.hold_placed.Goals as goal

pub returns-in-Err-clause-err : goal.returns-in-Err-clause-err
returns-in-Err-clause-err c = λ o listed dirty planned are.
    wants_passed o c.in-Err.e planned.ready.passed c.in-Err.ensures.err

pub returns-in-Ok-hold_stored-clause-ok : goal.returns-in-Ok-hold_stored-clause-ok
returns-in-Ok-hold_stored-clause-ok c = λ o listed dirty planned pad are.
    streamed_of o c.in-Ok.next c.args.planned.now c.args.pad c.args.phdrs.now
    c.args.held.now c.hold_stored.new.held c.in-Ok-hold_stored.front planned
    (c.in-Ok.ensures.ok o listed dirty planned.places) pad are c.in-Ok-hold_stored.ensures.ok

pub returns-clause-err : goal.returns-clause-err
returns-clause-err c = λ o listed dirty planned are.
    not_held o c.in-Ok.next c.args.phdrs.now c.in-Err-hold_stored.e planned.ready
    (c.in-Ok.ensures.ok o listed dirty planned.places) are c.in-Err-hold_stored.ensures.err

pub returns-in-Err-clause-unread : goal.returns-in-Err-clause-unread
returns-in-Err-clause-unread c =
    wanted_unread FrontRanges c.in-Err.e c.in-Err.ensures.err
