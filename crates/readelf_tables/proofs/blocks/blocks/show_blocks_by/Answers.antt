use Rattle.std.proofs.Common.{◌*◌, rules, arith}
use Rattle.std.proofs.lemmas.Result.{err_from_is_err_and}
use Rattle.tool_output.proofs.UnderWayLemmas.{begins, line_shown, stops_at, is_given, no_lines_left}
use Rattle.readelf_tables.specs.Blocks.Blocks.{table_row, relocations_in_bytes}
use Rattle.readelf_tables.proofs.blocks.BlockLemmas.{block_done}
use Rattle.readelf_tables.proofs.blocks.blocks.show_blocks_by.Goals as goal

pub loop-block-init : goal.loop-block-init
loop-block-init g c = record { lines = begins g.O.Sink g.E.Sink c.args.outputs.now _; keeps = search rules }

pub show_block-requires-clause-first : goal.show_block-requires-clause-first
show_block-requires-clause-first g c = omega (arith, c.loop-block-test.true, c.most_items-count.ensures.small)

pub loop-block-preserved : goal.loop-block-preserved
loop-block-preserved g c =
    let t = c.args.table.now in record {
      lines = line_shown c.loop-block.invariant.lines _ _ (block_done (table_row g.T.Relocation.entry_of t) c.loop-block.block (relocations_in_bytes g.T.Listed.kind g.T.Listed.list_of t))
          c.in_ok-show_block.ensures.reports;
      keeps = search rules;
    }

pub returns-in_err-show_block-clause-reports : goal.returns-in_err-show_block-clause-reports
returns-in_err-show_block-clause-reports g c =
    let t = c.args.table.now in
    let p = err_from_is_err_and c.from_residual.result c.from_residual.ensures.1 in
    rw (p.1, p.2) (stops_at c.loop-block.invariant.lines _ _ (block_done (table_row g.T.Relocation.entry_of t) c.loop-block.block (relocations_in_bytes g.T.Listed.kind g.T.Listed.list_of t))
    c.in_err-show_block.ensures.reports)

pub returns-clause-reports : goal.returns-clause-reports
returns-clause-reports g c =
    let t = c.args.table.now in
    is_given c.loop-block.invariant.lines
    (no_lines_left (table_row g.T.Relocation.entry_of t) (relocations_in_bytes g.T.Listed.kind g.T.Listed.list_of t) (c.loop-block.block * 64)
    (omega (arith, c.loop-block-test.false, c.most_items-count.ensures.items)))
