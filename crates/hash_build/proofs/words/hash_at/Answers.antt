use Rattle.std.proofs.Common.{ℕ, Option, None, ap, ◌∙◌, unwrap_or}
use Rattle.std.proofs.lemmas.Option.{unwrap_or-slice_get}
use Rattle.hash_build.proofs.words.hash_at.Goals as goal

pub returns-in-Some : goal.returns-in-Some
returns-in-Some c =
    ap (λ (r : Option (Option ℕ)). unwrap_or r None) c.in-Some.ensures
    ∙ unwrap_or-slice_get c.args.hashes.now c.args.i None

pub returns-in-None : goal.returns-in-None
returns-in-None c =
    ap (λ (r : Option (Option ℕ)). unwrap_or r None) c.in-None.ensures
    ∙ unwrap_or-slice_get c.args.hashes.now c.args.i None
