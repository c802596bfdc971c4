use Rattle.std.proofs.Common.{Ok}
use Rattle.hash_order.specs.Calls.{all_homes}
use Rattle.hash_order.specs.Reading.{ReadsHomes}
use Rattle.hash_order.proofs.PlanLaws.{ArePlanned}
use Rattle.hash_order.proofs.planning.plan_sections.Given as goal

abbrev pub invariant-loop-done : goal.invariant-loop-done
invariant-loop-done g l = record {
  planned : ArePlanned l.initial.elf l.s.0 l.order l.elf l.done l.plan.items;
  reads : ReadsHomes {T = Unit {0}} g.S.Source (all_homes l.initial.elf.o l.s.0) (Ok (tt {0}))
      l.initial.elf l.elf;
}
