use Rattle.std.proofs.Common.{◌≡◌, map}
use Rattle.std.specs.List.{range_with_len}
use Rattle.rebuild_select.specs.Steps.{goes}
use Rattle.rebuild_select.proofs.walks.fill_marks.Given as goal

abbrev pub invariant-loop-s : goal.invariant-loop-s
invariant-loop-s g l =
    l.marks
    ≡ map (goes l.elf.o (g.T.SectionTest.passes l.step l.elf.o) l.removed) (range_with_len 0 l.s)
