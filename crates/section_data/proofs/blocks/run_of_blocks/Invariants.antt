-- The run with the blocks so far.
use Rattle.std.proofs.Common.{◌≡◌, ℕ, ◌*◌, ◌%◌, ◌≤◌}
use Rattle.section_data.specs.Spans.{IsRun}
use Rattle.section_data.proofs.blocks.run_of_blocks.Given as goal

abbrev pub invariant-loop-block : goal.invariant-loop-block
invariant-loop-block l =
    (l.end ≤ l.limit) × (l.count % l.size ≡ 0) × (l.count ≡ l.size * l.block)
    × ((before : ℕ) → IsRun before l.pieces l.fn.run.count l.fn.run.end
    → IsRun before l.pieces l.count l.end)
