use Rattle.std.proofs.Common.{sym, ◌∙◌}
use Rattle.symbol_lookup.proofs.AtHand.{not_listed}
use Rattle.symbol_lookup.proofs.passing.pass_over.Goals as goal

pub returns-in-C32-clause-passed : goal.returns-in-C32-clause-passed
returns-in-C32-clause-passed g c = λ told j above below.
    not_listed c.args.elf.now c.args.s.0 c.args.strings.0 _ c.form-class.result.1 c.in-Some.symbols.now c.in-Some-raw_at_hand.bytes.now c.args.name.now c.requires.passed c.requires.strings
    (sym c.in-C32.is ∙ c.form-class.ensures.class) c.form-class.ensures.order c.in-Some.ensures c.in-Some-raw_at_hand.ensures told j (c.pass_in.ensures.passed j above below)

pub returns-in-C64-clause-passed : goal.returns-in-C64-clause-passed
returns-in-C64-clause-passed g c = λ told j above below.
    not_listed c.args.elf.now c.args.s.0 c.args.strings.0 _ c.form-class.result.1 c.in-Some.symbols.now c.in-Some-raw_at_hand.bytes.now c.args.name.now c.requires.passed c.requires.strings
    (sym c.in-C64.is ∙ c.form-class.ensures.class) c.form-class.ensures.order c.in-Some.ensures c.in-Some-raw_at_hand.ensures told j (c.pass_in-in-C64.ensures.passed j above below)
