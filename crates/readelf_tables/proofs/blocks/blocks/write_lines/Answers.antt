use Rattle.std.proofs.Common.{◌≡◌, ◌++◌, ◌+◌, ◌-◌, ℕ, drop, length, sym, ap, ◌∙◌, arith}
use Rattle.std.proofs.Math.Seq.{drop-length}
use Rattle.tool_output.specs.Lines.{numbered_lines}
use Rattle.readelf_rows.proofs.FrontLemmas.{stands_before, begins_inside}
use Rattle.readelf_tables.specs.Blocks.Blocks.{line_row}
use Rattle.readelf_tables.proofs.blocks.BlockLemmas.{line_first, no_line}
use Rattle.readelf_tables.proofs.blocks.blocks.write_lines.Goals as goal

pub loop-i-init : goal.loop-i-init
loop-i-init c =
    let lines = c.args.lines.now in record {
      inside = omega arith;
      within = omega arith;
      wrote = drop-length c.args.buffer.now
          ∙ sym (no_line line_row lines (length lines) (omega arith));
    }

pub loop-i-preserved : goal.loop-i-preserved
loop-i-preserved c =
    let lines = c.args.lines.now in
    let i = c.loop-i.i in
    let line = c.item_at-line.result in
    let next : i - 1 + 1 ≡ i = omega (arith, c.loop-i-test.true) in record {
      inside = begins_inside c.in_ok-at.ensures c.loop-i.invariant.inside;
      within = omega (arith, c.loop-i.invariant.within);
      wrote = stands_before c.in_ok-at.ensures c.loop-i.invariant.wrote
          ∙ ap (λ (n : ℕ). line_row (i - 1) line ++ numbered_lines line_row n (drop n lines)) (sym next)
          ∙ sym (line_first line_row lines (i - 1) line
          (omega (arith, c.loop-i-test.true, c.loop-i.invariant.within)) c.item_at-line.ensures);
    }

pub returns-clause-wrote : goal.returns-clause-wrote
returns-clause-wrote c =
    let none : c.loop-i.i ≡ 0 = omega (arith, c.loop-i-test.false) in
    c.loop-i.invariant.wrote
    ∙ ap (λ (n : ℕ). numbered_lines line_row n (drop n c.args.lines.now)) none
