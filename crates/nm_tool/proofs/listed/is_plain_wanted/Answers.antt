use Rattle.std.proofs.Common.{Bool, ◌&&◌, ◌∙◌, sym, ap}
use Rattle.nm_tool.specs.Listed.{is_wanted}
use Rattle.nm_tool.proofs.listed.is_plain_wanted.Goals as goal

pub returns-then-is_kept : goal.returns-then-is_kept
returns-then-is_kept c = λ o s i none.
    c.is_wanted_by.ensures o s i none
    ∙ sym (ap (λ (b : Bool). b && is_wanted c.args.options.now o s i c.args.x.now)
    (sym c.is_kept.ensures ∙ c.if-is_kept.true))

pub returns : goal.returns
returns c = λ o s i none.
    sym (ap (λ (b : Bool). b && is_wanted c.args.options.now o s i c.args.x.now)
    (sym c.is_kept.ensures ∙ c.if-is_kept.false))
