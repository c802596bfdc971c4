use Rattle.std.proofs.Common.{length}
use Rattle.line_table.specs.Reading.{list_at}
use Rattle.line_table.specs.Header.{directory_at}
use Rattle.line_table.proofs.Names.{Passed}
use Rattle.line_table.proofs.tables.pass_directories.Given as goal

-- some directories were passed, and the others are left
abbrev pub invariant-loop-directory : goal.invariant-loop-directory
invariant-loop-directory l = Passed l.reader (list_at directory_at l.initial.reader)

abbrev pub decreases-loop-directory : goal.decreases-loop-directory
decreases-loop-directory l = length l.reader
