use Rattle.std.proofs.Common.{◌≡◌, ◌<◌, ℕ, false, Ok}
use Rattle.std.specs.Prelude.{◌-◌, IsTrue}
use Rattle.symbol_lookup.specs.Lookups.{is_match, linear_needs}
use Rattle.symbol_lookup.specs.Searches.{Searches, ObjectStays}
use Rattle.symbol_lookup.proofs.linear.first_match.Given as goal

abbrev pub invariant-loop-next : goal.invariant-loop-next
invariant-loop-next g l =
    ObjectStays l.initial.elf l.elf
    × Searches {T = Unit {0}} g.S.Source (linear_needs l.initial.elf.o l.s.0) (Ok (tt {0})) l.initial.elf l.elf
    × (IsTrue l.initial.elf.told → (j : ℕ) → j < l.next → is_match l.initial.elf.o l.s.0 l.name j ≡ false)

abbrev pub decreases-loop-next : goal.decreases-loop-next
decreases-loop-next g l = l.count - l.next
