use Rattle.std.proofs.Common.{◌-◌}
use Rattle.elf_update_in_place.proofs.moves.MeetingLaws.{IsNarrowed}
use Rattle.elf_update_in_place.proofs.moves.meeting.count_ended.Given as goal

abbrev pub invariant-loop-low : goal.invariant-loop-low
invariant-loop-low l = IsNarrowed l.extents l.at l.low l.high

abbrev pub decreases-loop-low : goal.decreases-loop-low
decreases-loop-low l = l.high - l.low
