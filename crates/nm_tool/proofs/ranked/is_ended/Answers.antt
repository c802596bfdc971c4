use Rattle.std.proofs.Common.{◌-◌, ℕ, length, arith}
use Rattle.std.specs.Prelude.{◌==◌}
use Rattle.std.proofs.lemmas.List.Folds.{list_any_at}
use Rattle.nm_tool.proofs.ranked.is_ended.Goals as goal

pub returns : goal.returns
returns c =
    list_any_at (λ (b : ℕ). b == 0) c.args.bytes.now (length c.args.bytes.now - 1) 0 (omega (arith, c.if-len-eq0.false))
