use Rattle.std.proofs.Common.{◌≤◌, length}
use Rattle.line_table.specs.Program.{ops}
use Rattle.line_table.specs.Views.{seen}
use Rattle.line_table.proofs.Running.{Running}
use Rattle.line_table.proofs.program.execute.Given as goal

-- some instructions were executed, and the others are left
abbrev pub invariant-loop-reader : goal.invariant-loop-reader
invariant-loop-reader l =
    Running (seen l.header) l.end l.fn.files (ops (seen l.header) l.at l.program) l.reader l.table × (length l.reader ≤ length l.program)

abbrev pub decreases-loop-reader : goal.decreases-loop-reader
decreases-loop-reader l = length l.reader
