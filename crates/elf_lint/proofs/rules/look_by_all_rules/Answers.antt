use Rattle.elf_lint.specs.Rules.{findings, lint_passes}
use Rattle.elf_lint.proofs.rules.look_by_all_rules.Goals as goal

-- what each rule of the list finds is what the rules find in their order
pub returns : goal.returns
unfolding findings lint_passes
returns g c = c.look_by_each.ensures
