use Rattle.elf_lint_hashes.specs.Paths.{ArePaths}
use Rattle.elf_lint_hashes.proofs.paths.learn_all.Given as goal

abbrev pub invariant-loop-done : goal.invariant-loop-done
invariant-loop-done l = ArePaths l.words l.t l.paths
