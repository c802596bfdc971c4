use Rattle.std.proofs.Common.{inl, inr, ℕ, get_or, refl, ap, ◌∙◌}
use Rattle.elf_lint_hashes.proofs.paths.leap_behind.Goals as goal

pub returns-then-from-to : goal.returns-then-from-to
returns-then-from-to c =
    inr (c.number_of-farther.ensures
    ∙ ap (λ (k : ℕ). get_or c.args.paths.now.leaps k 0) c.number_of-far.ensures)

pub returns-else-from-to : goal.returns-else-from-to
returns-else-from-to c = inl refl
