use Rattle.std.proofs.Common.{Bool, length, subst}
use Rattle.rebuild_edits.specs.Texts.{AddsTo}
use Rattle.rebuild_edits.proofs.building.finish_names.Goals as goal

pub returns-then-fits-clause-built : goal.returns-then-fits-clause-built
returns-then-fits-clause-built c = λ texts adds.
    c.finish_table.ensures.built texts
    (subst (λ (b : Bool). AddsTo texts c.args.making.strings c.args.making.places (length texts) b)
    c.if-fits.true adds)

pub returns-clause-built : goal.returns-clause-built
returns-clause-built c = λ texts adds.
    subst (λ (b : Bool). AddsTo texts c.args.making.strings c.args.making.places (length texts) b)
    c.if-fits.false adds
