use Rattle.std.proofs.Common.{ℕ, drop, ap, ◌∙◌}
use Rattle.std.proofs.lemmas.List.{drop_min}
use Rattle.nm_tool.proofs.ranked.rest_of.Goals as goal

pub returns : goal.returns
returns c =
    c.split_at.ensures.back ∙ ap (λ (n : ℕ). drop n c.args.name.now) c.min-at.ensures
    ∙ drop_min c.args.place c.args.name.now
