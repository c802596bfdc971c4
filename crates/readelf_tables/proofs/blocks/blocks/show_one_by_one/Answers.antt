use Rattle.std.proofs.Common.{rules, arith}
use Rattle.std.proofs.lemmas.Result.{err_from_is_err_and}
use Rattle.tool_output.proofs.UnderWayLemmas.{begins, line_shown, stops_at, is_given, lines_left, no_lines_left}
use Rattle.readelf_tables.specs.Blocks.Blocks.{line_row}
use Rattle.readelf_tables.proofs.blocks.blocks.show_one_by_one.Goals as goal

pub loop-i-init : goal.loop-i-init
loop-i-init g c = record { lines = begins g.O.Sink g.E.Sink c.args.outputs.now _; keeps = search rules }

pub loop-i-preserved : goal.loop-i-preserved
loop-i-preserved g c = record {
  lines = line_shown c.loop-i.invariant.lines _ _ (lines_left line_row c.args.lines.now c.loop-i.i _ (omega (arith, c.loop-i-test.true)) c.item_at-line.ensures)
      c.in_ok-show.ensures.reports;
  keeps = search rules;
}

pub returns-in_err-show-clause-reports : goal.returns-in_err-show-clause-reports
returns-in_err-show-clause-reports g c =
    let p = err_from_is_err_and c.from_residual.result c.from_residual.ensures.1 in
    rw (p.1, p.2) (stops_at c.loop-i.invariant.lines _ _ (lines_left line_row c.args.lines.now c.loop-i.i _ (omega (arith, c.loop-i-test.true)) c.item_at-line.ensures)
    c.in_err-show.ensures.reports)

pub returns-clause-reports : goal.returns-clause-reports
returns-clause-reports g c = is_given c.loop-i.invariant.lines (no_lines_left line_row c.args.lines.now c.loop-i.i (omega (arith, c.loop-i-test.false)))
