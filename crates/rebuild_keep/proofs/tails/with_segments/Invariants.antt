use Rattle.std.proofs.Common.{◌≡◌, map, max, take}
use Rattle.rebuild_making.specs.rebuild_model.Arranged.{segment_end}
use Rattle.rebuild_making.specs.elf_object.Sections.{greatest}
use Rattle.rebuild_keep.specs.Ends.{at_most_word}
use Rattle.rebuild_keep.proofs.tails.with_segments.Given as goal

abbrev pub invariant-loop-i : goal.invariant-loop-i
invariant-loop-i g l =
    l.reached
    ≡ at_most_word (max l.end (greatest (map segment_end (take l.i l.elf.o.phdrs))))
