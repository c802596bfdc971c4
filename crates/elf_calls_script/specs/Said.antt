-- What the reader of a line finds at its front.
use Rattle.std.specs.Prelude.{ℕ, Bool, List, Result}
use Rattle.std.specs.Bool.{then_some}
use Rattle.elf_types.specs.Answers.{FollowsBy}
use Rattle.elf_calls_script.specs.declared.faults.CallFault.{CallFault}
use Rattle.elf_calls_script.specs.Causes.{call_fault_why}
use Rattle.elf_calls_script.specs.Parts.{Phrase}

-- a value, with whether each number in it is in its range, and the words after it are what the part
-- says of the words, unless memory ran out
abbrev pub Says : {X : Type 0} → Phrase X → List (List ℕ) → Result (X × Bool) CallFault → List (List ℕ)
    → Type 0
Says part words result left =
    FollowsBy (λ said. (then_some said.1 said.0, left)) call_fault_why result (part words)
