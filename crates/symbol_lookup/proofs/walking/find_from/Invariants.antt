use Rattle.std.proofs.Common.{◌-◌}
use Rattle.symbol_lookup.proofs.WalkLaws.{Walking}
use Rattle.symbol_lookup.proofs.walking.find_from.Given as goal

abbrev pub invariant-loop-taken : goal.invariant-loop-taken
invariant-loop-taken g l = Walking g.S.Source l.h.0 l.s.0 l.name l.start l.initial.elf l.elf l.walk (l.steps - l.taken)
