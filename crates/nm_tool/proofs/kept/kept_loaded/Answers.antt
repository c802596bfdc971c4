use Rattle.std.proofs.Common.{◌-◌}
use Rattle.std.proofs.lemmas.Result.{IfOk-weaker}
use Rattle.nm_tool.specs.Kept.{kept_of}
use Rattle.nm_tool.proofs.PlaceLemmas.{plain_told}
use Rattle.nm_tool.proofs.PlainLemmas.{learns_held}
use Rattle.nm_tool.proofs.kept.kept_loaded.Goals as goal

pub kept_at_hand-requires-clause-whole : goal.kept_at_hand-requires-clause-whole
kept_at_hand-requires-clause-whole g c = c.in-Some.ensures.items.whole

pub returns-in-Some : goal.returns-in-Some
returns-in-Some g c =
    let s = c.args.t.symbols.0 in
    learns_held g.S.Source (λ o. kept_of c.args.options.now o s (c.args.count - 1))
    c.kept_at_hand.result c.args.elf.now
    (λ told. IfOk-weaker c.kept_at_hand.result _ _
    (λ l is. is c.args.elf.now.o s
    (plain_told c.args.elf.now c.args.t c.in-Some.symbols c.requires.tables c.in-Some.ensures told))
    c.kept_at_hand.ensures.ok) c.kept_at_hand.ensures.err
