use Rattle.elf_layout.proofs.Neighbours.{first_close_found, first_close_passed, first_close_none}
use Rattle.elf_layout.proofs.meeting.first_close.Goals as goal

pub returns-then-saturating_sub-a : goal.returns-then-saturating_sub-a
returns-then-saturating_sub-a c =
    first_close_found _ _ _ _ c.loop-next.auto.next c.loop-next-test.true c.loop-next.invariant c.saturating_sub.ensures c.if-saturating_sub-a.true

pub loop-next-preserved : goal.loop-next-preserved
loop-next-preserved c =
    first_close_passed _ _ _ _ c.loop-next.auto.next c.loop-next-test.true c.loop-next.invariant c.saturating_sub.ensures c.if-saturating_sub-a.false

pub returns : goal.returns
returns c = first_close_none _ _ (record { at = 0; rank = 0; len = 0 }) c.loop-next.auto.next c.loop-next-test.false c.loop-next.invariant
