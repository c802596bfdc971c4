use Rattle.std.proofs.Common.{◌*◌}
use Rattle.std.specs.Prelude.{min}
use Rattle.rebuild_tables.specs.Rows.{row_count}
use Rattle.rebuild_tables.proofs.HoldLaws.{HeldSoFar}
use Rattle.rebuild_tables.proofs.holding.hold_all.Given as goal

abbrev pub invariant-loop-p : goal.invariant-loop-p
invariant-loop-p g l =
    HeldSoFar g.S.Source l.numbering l.x l.initial.elf l.elf l.initial.held l.held
    (min (l.p * 2048) (row_count l.x))
