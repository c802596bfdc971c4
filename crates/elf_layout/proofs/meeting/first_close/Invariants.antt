use Rattle.std.proofs.Common.{◌≡◌, ◌-◌, drop}
use Rattle.elf_layout.specs.Extents.{first_close}
use Rattle.elf_layout.proofs.meeting.first_close.Given as goal

abbrev pub invariant-loop-next : goal.invariant-loop-next
invariant-loop-next l = first_close (drop (l.next - 1) l.extents) ≡ first_close l.extents
