use Rattle.std.proofs.Common.{◌≡◌, [], map, Ok}
use Rattle.std.specs.Prelude.{IsTrue}
use Rattle.std.specs.List.{range_with_len}
use Rattle.rebuild_select.specs.Steps.{goes, goes_by_name, AreMarksRemovable}
use Rattle.rebuild_select.specs.Calls.{ReadsNames}
use Rattle.rebuild_select.proofs.names.fill_marks.Given as goal

abbrev pub invariant-loop-s : goal.invariant-loop-s
invariant-loop-s g l = record {
  reads : ReadsNames {T = Unit {0}} g.S.Source (Ok (tt {0})) l.initial.elf l.elf;
  told : IsTrue l.initial.elf.told → l.marks
      ≡ map (goes l.initial.elf.o (goes_by_name l.debug_too l.names l.initial.elf.o) [])
      (range_with_len 0 l.s);
  apart : AreMarksRemovable l.initial.elf.o l.marks l.s;
}
