use Rattle.std.proofs.Common.{◌≡◌, max}
use Rattle.rebuild_making.specs.elf_object.Sections.{greatest}
use Rattle.rebuild_keep.specs.Ends.{at_most_word}
use Rattle.rebuild_keep.proofs.EndLaws.{ends_below}
use Rattle.rebuild_keep.proofs.tails.with_homes.Given as goal

abbrev pub invariant-loop-s : goal.invariant-loop-s
invariant-loop-s g l =
    l.reached ≡ at_most_word (max l.end (greatest (ends_below l.elf.o l.removed l.s)))
