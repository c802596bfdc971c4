use Rattle.symbol_lookup.specs.Searches.{LacksSymbol}
use Rattle.symbol_lookup.proofs.AtHand.{one_more}
use Rattle.symbol_lookup.proofs.passing.pass_in.Goals as goal

pub loop-i-preserved : goal.loop-i-preserved
loop-i-preserved c =
    one_more (λ j. LacksSymbol c.args.form.0 c.args.form.1 c.args.symbols.now c.args.strings.now c.args.name.now j) c.args.from c.loop-i.i c.loop-i.invariant
    (c.lacks_symbol.ensures c.if-not-lacks_symbol.false)
