use Rattle.std.proofs.Common.{refl, sym, ◌∙◌}
use Rattle.rebuild_names.proofs.adding.none_if_too_large.Goals as goal

pub returns-then-is_too_large-clause-none : goal.returns-then-is_too_large-clause-none
returns-then-is_too_large-clause-none c =
    (refl, sym c.is_too_large.ensures ∙ c.if-is_too_large.true)

pub returns-clause-err : goal.returns-clause-err
returns-clause-err c = (refl, sym c.is_too_large.ensures ∙ c.if-is_too_large.false)
