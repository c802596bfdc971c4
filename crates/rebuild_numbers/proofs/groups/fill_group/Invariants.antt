use Rattle.std.proofs.Common.{◌≡◌, take}
use Rattle.rebuild_select.specs.rebuild_model.Followed.{followed_group}
use Rattle.rebuild_numbers.proofs.groups.fill_group.Given as goal

abbrev pub invariant-loop-i : goal.invariant-loop-i
invariant-loop-i l = l.members ≡ followed_group l.numbering (take l.i l.words)
