use Rattle.std.proofs.Common.{◌≡◌, true}
use Rattle.hash_model.specs.HashSections.{is_on}
use Rattle.elf_lint_hashes.specs.Paths.{chain_from}
use Rattle.elf_lint_hashes.proofs.paths.is_met.Given as goal

abbrev pub invariant-loop-step : goal.invariant-loop-step
invariant-loop-step l =
    is_on l.i (chain_from l.words l.t l.at) ≡ true
    → is_on l.i (chain_from l.words l.t l.first) ≡ true
