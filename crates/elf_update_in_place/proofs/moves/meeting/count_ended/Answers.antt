use Rattle.std.proofs.Common.{◌+◌, ◌-◌, ◌/◌, arith}
use Rattle.elf_update_in_place.proofs.moves.MeetingLaws.{narrowed_up, narrowed_down, middle_of}
use Rattle.elf_update_in_place.proofs.moves.meeting.count_ended.Goals as goal

pub loop-low-preserved-then-extents-middle : goal.loop-low-preserved-then-extents-middle
loop-low-preserved-then-extents-middle c =
    let l = c.loop-low in
    let middle = middle_of l.low l.high c.loop-low-test.true in
    narrowed_up c.args.extents.now c.args.at l.low l.high (l.low + (l.high - l.low) / 2) c.requires
    l.invariant middle.1 (omega (arith, c.if-extents-middle.true))

pub loop-low-preserved : goal.loop-low-preserved
loop-low-preserved c =
    let l = c.loop-low in
    let middle = middle_of l.low l.high c.loop-low-test.true in
    narrowed_down c.args.extents.now c.args.at l.low l.high (l.low + (l.high - l.low) / 2)
    c.requires l.invariant middle.0 middle.1 (omega (arith, c.if-extents-middle.false))
