use Rattle.std.proofs.Common.{◌≡◌, ◌-◌}
use Rattle.elf_lint_hashes.specs.Sysv.{chain_has}
use Rattle.elf_lint_hashes.proofs.SysvWords.{left}
use Rattle.elf_lint_hashes.proofs.words.chain_has.Given as goal

abbrev pub invariant-loop-step : goal.invariant-loop-step
invariant-loop-step l =
    left l.words l.t l.i l.met (l.t.nchain - l.step) l.at ≡ chain_has l.words l.t l.first l.i
