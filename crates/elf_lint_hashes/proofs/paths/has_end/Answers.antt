use Rattle.std.proofs.Common.{Bool, Option, sym, ap, ◌∙◌}
use Rattle.std.specs.Prelude.{is_some}
use Rattle.elf_lint_hashes.specs.Sysv.{has_end}
use Rattle.elf_lint_hashes.proofs.PathLaws.{known_end}
use Rattle.elf_lint_hashes.proofs.paths.has_end.Goals as goal

pub returns-then-is_known-clause-value : goal.returns-then-is_known-clause-value
returns-then-is_known-clause-value c =
    known_end c.args.words.now c.args.t c.learn_all.new.paths c.learn_all.ensures c.args.first
    (sym c.is_known.ensures ∙ c.if-is_known.true)

pub returns-clause-value : goal.returns-clause-value
unfolding has_end
returns-clause-value c =
    c.is_some.ensures ∙ ap (λ (r : Option Bool). is_some r) c.chain_has.ensures
