use Rattle.std.proofs.Common.{ℕ, subst}
use Rattle.symbol_lookup.specs.Searches.{LacksName}
use Rattle.symbol_lookup.proofs.AtHand.{not_global, lacks_when}
use Rattle.symbol_lookup.proofs.passing.lacks_name_of.Goals as goal

pub returns-then-not-is_defined_global : goal.returns-then-not-is_defined_global
returns-then-not-is_defined_global c = λ _.
    not_global c.args.strings.now c.args.name.now c.get_sym-x.result _ c.is_defined_global.result c.get_sym-x.ensures.value c.is_defined_global.ensures c.if-not-is_defined_global.true

pub returns : goal.returns
returns c = λ is.
    lacks_when c.args.strings.now c.args.name.now c.get_sym-x.result _ c.get_sym-x.ensures.value
    (subst (λ (n : ℕ). LacksName c.args.strings.now n c.args.name.now) c.from.ensures (c.lacks_name.ensures is))
