use Rattle.std.proofs.Common.{ℕ, List, ap, sym, subst, ◌∙◌}
use Rattle.rebuild_numbers.specs.Numbers.{IsNumbering, numbering_of}
use Rattle.rebuild_numbers.proofs.NumberLaws.{numbering_is, is_numbering}
use Rattle.rebuild_numbers.proofs.numbering.Numbering.without.Goals as goal

pub from_numbers-requires : goal.from_numbers-requires
from_numbers-requires c =
    subst (λ (l : List ℕ). IsNumbering l) (sym c.in-Ok.ensures.ok)
    (is_numbering c.args.removed.now c.args.count c.requires)

pub returns-in-Ok-clause-ok : goal.returns-in-Ok-clause-ok
returns-in-Ok-clause-ok c =
    c.from_numbers.ensures
    ∙ ap numbering_of c.in-Ok.ensures.ok
    ∙ numbering_is c.args.removed.now c.args.count c.requires
