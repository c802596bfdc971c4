use Rattle.std.proofs.Common.{Ok}
use Rattle.std.specs.Prelude.{IsTrue}
use Rattle.rebuild_numbers.specs.rebuild_select.Calls.{ReadsNames}
use Rattle.rebuild_names.specs.Names.{AreNamesAdded, KnowsNames}
use Rattle.rebuild_names.proofs.building.add_all.Given as goal

abbrev pub invariant-loop-s : goal.invariant-loop-s
invariant-loop-s g l = record {
  reads : ReadsNames {T = Unit {0}} g.S.Source (Ok (tt {0})) l.initial.elf l.elf;
  told : IsTrue l.initial.elf.told → AreNamesAdded l.initial.elf.o l.removed l.making l.s;
  known : IsTrue l.initial.elf.told → KnowsNames l.initial.elf.o l.making;
}
