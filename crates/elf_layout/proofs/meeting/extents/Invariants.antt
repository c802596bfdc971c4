use Rattle.std.proofs.Common.{◌≡◌, ◌++◌, drop, map}
use Rattle.elf_layout.specs.Extents.{extent_of, extents_of}
use Rattle.elf_layout.specs.Meeting.{ranked_from}
use Rattle.elf_layout.proofs.meeting.extents.Given as goal

abbrev pub invariant-loop-rank : goal.invariant-loop-rank
invariant-loop-rank l =
    l.extents.items ++ map extent_of (ranked_from l.rank (drop l.rank l.parts)) ≡ extents_of l.parts
