use Rattle.std.proofs.Common.{sym, ap, ◌∙◌, arith}
use Rattle.tool_output.specs.Lines.{numbered_lines}
use Rattle.readelf_tables.specs.Blocks.AtHand.{symbol_of}
use Rattle.readelf_tables.specs.Blocks.Blocks.{found_row}
use Rattle.readelf_tables.proofs.blocks.BlockLemmas.{no_row_made, block_more, block_ends, found_same}
use Rattle.readelf_tables.proofs.blocks.blocks.find_symbols.Goals as goal

pub loop-k-init : goal.loop-k-init
loop-k-init g c = no_row_made _ _ _ _ _ c.truncate.ensures

pub returns-in-None-clause-ok : goal.returns-in-None-clause-ok
returns-in-None-clause-ok g c =
    c.loop-k.invariant ∙ block_ends _ (found_row c.args.table.now.strings.now) _ c.args.first c.loop-k.k 64 (omega (arith, c.loop-k-test.true)) (sym c.in-None.ensures)

pub loop-k-preserved : goal.loop-k-preserved
loop-k-preserved g c =
    let t = c.args.table.now in
    ap (numbered_lines (found_row t.strings.now) 0) c.in_ok-push.ensures.ok
    ∙ block_more _ (found_row t.strings.now) _ c.args.first c.loop-k.k c.loop-k.found c.in-Some.item _ c.loop-k.invariant (sym c.in-Some.ensures)
    (found_same t 0 _ _ c.entry-entry.ensures (c.item_of-symbol.ensures ∙ ap (symbol_of t) c.from-y.ensures))
