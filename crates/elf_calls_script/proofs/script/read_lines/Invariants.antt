use Rattle.std.proofs.Common.{length}
use Rattle.std.specs.Option.{option_copied}
use Rattle.std.specs.Str.{byte}
use Rattle.elf_calls_script.specs.Left.{pieces_left}
use Rattle.elf_calls_script.proofs.LinesRead.{ReadSoFar}
use Rattle.elf_calls_script.proofs.script.read_lines.Given as goal

abbrev pub invariant-loop-rest : goal.invariant-loop-rest
invariant-loop-rest l = ReadSoFar l.fn.bytes l.calls l.number (option_copied l.rest)

abbrev pub decreases-loop-rest : goal.decreases-loop-rest
decreases-loop-rest l = length (pieces_left (byte "\n") (option_copied l.rest))
