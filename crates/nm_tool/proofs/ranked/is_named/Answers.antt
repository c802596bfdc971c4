use Rattle.std.proofs.Common.{ℕ, not, ap, ◌∙◌}
use Rattle.std.specs.Prelude.{◌==◌}
use Rattle.nm_tool.proofs.Ranking.{named_first}
use Rattle.nm_tool.proofs.ranked.is_named.Goals as goal

pub returns : goal.returns
returns c =
    ap (λ (n : ℕ). not (n == 0)) c.byte_or_one.ensures
    ∙ ap not (named_first c.args.strings.now c.args.k.now.name)
