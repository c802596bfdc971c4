use Rattle.std.proofs.Common.{◌+◌, ◌*◌, ap, ◌∙◌}
use Rattle.std.proofs.lemmas.List.{take_rest}
use Rattle.ar_members.specs.Symbols.{be_word}
use Rattle.ar_members.proofs.SymbolLemmas.{symbols_more, symbols_bad}
use Rattle.ar_members.proofs.symbols.named_symbols.Goals as goal

pub loop-i-preserved : goal.loop-i-preserved
loop-i-preserved c =
    let rest = c.loop-i.rest.now in
    let at = c.from-at.ensures ∙ c.word.ensures ∙ ap be_word (take_rest c.args.offsets.now (4 * c.loop-i.i)) in
    symbols_more c.args.count c.loop-i.i c.in-Some.end c.from-at.result c.args.offsets.now c.args.names.now rest c.in_ok-name.name _ c.loop-i.symbols c.push.new.self c.loop-i-test.true c.in-Some.ensures at c.in_ok-name.ensures.ok c.in_ok-push.ensures.ok (take_rest rest (c.in-Some.end + 1)) c.loop-i.invariant

pub returns-in_default-clause-symbols : goal.returns-in_default-clause-symbols
returns-in_default-clause-symbols c =
    symbols_bad c.args.count c.loop-i.i c.args.offsets.now c.args.names.now c.loop-i.rest.now c.loop-i.symbols c.loop-i-test.true c.in_default.ensures c.loop-i.invariant
