use Rattle.elf_outside.proofs.AskLemmas.{read_rose_on}
use Rattle.elf_update_to.specs.declared.updates.PlannedParts.{PlannedParts}
use Rattle.rebuild_image.specs.declared.holding.FrontRanges.{FrontRanges}
use Rattle.rebuild_image.specs.declared.streaming.Streamed.{Streamed}
use Rattle.rebuild_image.proofs.streaming.stream_listed.Goals as goal

pub returns-in-Err-clause-err : goal.returns-in-Err-clause-err
returns-in-Err-clause-err c = λ o is are. c.in-Err.ensures.err o is

pub returns-in-Ok-hold_placed-clause-ok : goal.returns-in-Ok-hold_placed-clause-ok
returns-in-Ok-hold_placed-clause-ok c = λ o is pad are.
    c.in-Ok-hold_placed.ensures.ok o is.listed is.dirty (c.in-Ok.ensures.ok o is) pad are

pub returns-in-Err-hold_placed-clause-err : goal.returns-in-Err-hold_placed-clause-err
returns-in-Err-hold_placed-clause-err c = λ o is are.
    c.in-Err-hold_placed.ensures.err o is.listed is.dirty (c.in-Ok.ensures.ok o is) are

pub returns-in-Err-clause-unread : goal.returns-in-Err-clause-unread
returns-in-Err-clause-unread c = λ a b.
    read_rose_on PlannedParts Streamed c.in-Err.e a b (c.in-Err.ensures.unread a b)

pub returns-in-Err-hold_placed-clause-unread : goal.returns-in-Err-hold_placed-clause-unread
returns-in-Err-hold_placed-clause-unread c = λ a b.
    read_rose_on FrontRanges Streamed c.in-Err-hold_placed.e a b
    (c.in-Err-hold_placed.ensures.unread a b)
