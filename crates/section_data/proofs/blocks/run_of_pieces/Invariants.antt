-- The run with the pieces so far.
use Rattle.std.proofs.Common.{ℕ, ◌≤◌}
use Rattle.section_data.specs.Spans.{IsRun}
use Rattle.section_data.proofs.blocks.run_of_pieces.Given as goal

abbrev pub invariant-loop-i : goal.invariant-loop-i
invariant-loop-i l =
    (l.end ≤ l.limit)
    × ((before : ℕ) → IsRun before l.pieces l.fn.run.count l.fn.run.end
    → IsRun before l.pieces l.i l.end)
