use Rattle.elf_lint_hashes.proofs.PathLaws.{paths_none, zero_at}
use Rattle.elf_lint_hashes.proofs.paths.no_paths.Goals as goal

pub returns-clause-are : goal.returns-clause-are
returns-clause-are c =
    let n = c.args.t.nchain in
    paths_none c.args.words.now c.args.t (record { steps = c.in_ok-steps.steps; leaps = c.in_ok-leaps.leaps })
    (λ i. zero_at n i c.in_ok-steps.steps c.in_ok-steps.ensures.ok)
    (λ i. zero_at n i c.in_ok-leaps.leaps c.in_ok-leaps.ensures.ok)
