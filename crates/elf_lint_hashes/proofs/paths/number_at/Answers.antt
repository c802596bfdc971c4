use Rattle.std.proofs.Common.{ℕ, Option, ap, ◌∙◌, unwrap_or}
use Rattle.std.proofs.lemmas.Option.{unwrap_or-slice_get}
use Rattle.elf_lint_hashes.proofs.paths.number_at.Goals as goal

pub returns-in-Some : goal.returns-in-Some
returns-in-Some c =
    ap (λ (r : Option ℕ). unwrap_or r 0) c.in-Some.ensures
    ∙ unwrap_or-slice_get c.args.list.now c.args.i 0

pub returns-in-None : goal.returns-in-None
returns-in-None c =
    ap (λ (r : Option ℕ). unwrap_or r 0) c.in-None.ensures
    ∙ unwrap_or-slice_get c.args.list.now c.args.i 0
