use Rattle.std.proofs.Common.{◌≡◌, ◌≤◌, drop}
use Rattle.elf_layout.specs.Layout.{length_from}
use Rattle.elf_layout.proofs.caller.length_within.Given as goal

abbrev pub invariant-loop-part : goal.invariant-loop-part
invariant-loop-part l =
    (l.length ≤ l.limit) × (length_from l.length (drop l.part-index l.parts) ≡ length_from l.base l.parts)
