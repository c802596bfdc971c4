use Rattle.std.proofs.Common.{◌≡◌, ◌≤◌, ◌-◌, length}
use Rattle.line_table.specs.Program.{passed}
use Rattle.line_table.proofs.operations.pass_operands.Given as goal

-- what is left after the operands to come is what is left after all
abbrev pub invariant-loop : goal.invariant-loop
invariant-loop l =
    (passed (l.count - l.counter) l.reader ≡ passed l.count l.initial.reader) × (length l.reader ≤ length l.initial.reader)
