-- The sections so far.
use Rattle.std.proofs.Common.{◌≡◌}
use Rattle.elf_descriptor.specs.Edits.{new_scns}
use Rattle.elf_descriptor.proofs.body.edits.sections.first_scns.Given as goal

abbrev pub invariant-loop-number : goal.invariant-loop-number
invariant-loop-number l = l.sections ≡ new_scns 0 l.number
