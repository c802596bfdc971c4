use Rattle.std.proofs.Common.{◌≡◌, length}
use Rattle.hash_order.proofs.StoringLaws.{AreStored}
use Rattle.hash_order.proofs.storing.store_sections.Given as goal

abbrev pub invariant-loop-n : goal.invariant-loop-n
invariant-loop-n g l = (long : length l.initial.plan.items ≡ length l.initial.elf.o.sections)
    × AreStored g.S.Source l.initial.elf l.initial.plan.items long l.n l.plan.items l.elf
