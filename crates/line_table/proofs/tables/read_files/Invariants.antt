use Rattle.std.proofs.Common.{length}
use Rattle.line_table.specs.Reading.{list_at}
use Rattle.line_table.specs.Header.{named_file_at}
use Rattle.line_table.proofs.Lists.{Left}
use Rattle.line_table.proofs.tables.read_files.Given as goal

-- the names so far and those that are left
abbrev pub invariant-loop-names : goal.invariant-loop-names
invariant-loop-names l = Left named_file_at l.reader l.names (list_at named_file_at l.initial.reader)

abbrev pub decreases-loop-names : goal.decreases-loop-names
decreases-loop-names l = length l.reader
