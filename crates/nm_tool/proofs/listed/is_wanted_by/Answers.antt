use Rattle.std.proofs.Common.{Bool, ◌∙◌, refl, sym, ap}
use Rattle.std.specs.Prelude.{not, ◌||◌}
use Rattle.nm_tool.specs.Letters.{is_undefined}
use Rattle.nm_tool.specs.Listed.{is_wanted}
use Rattle.nm_tool.proofs.listed.is_wanted_by.Goals as goal

pub returns : goal.returns
unfolding is_wanted
returns c = λ o s i none.
    ap (λ (u : Bool). not c.args.options.now.undefined || u)
    (c.is_undefined.ensures
    ∙ ap is_undefined (sym (c.plain_place.ensures o s i c.args.x.now none refl)))
