use Rattle.std.proofs.Common.{ℕ, List, Option, ap, ◌∙◌}
use Rattle.tool_output.specs.Lines.{numbered_lines}
use Rattle.readelf_tables.specs.Blocks.RelocationLines.{relocation_line}
use Rattle.readelf_tables.specs.Blocks.Blocks.{line_row, found_row}
use Rattle.readelf_tables.proofs.blocks.BlockLemmas.{no_row_made, next_made}
use Rattle.readelf_tables.proofs.blocks.blocks.name_lines.Goals as goal

pub loop-i-init : goal.loop-i-init
loop-i-init c = no_row_made (found_row c.args.strings.now) line_row 0 0 _ c.in_ok-lines.ensures.ok

pub loop-i-preserved : goal.loop-i-preserved
loop-i-preserved c =
    let e = c.item_at-one.result.entry in
    ap (numbered_lines line_row 0) c.in_ok-push.ensures.ok
    ∙ next_made (found_row c.args.strings.now) line_row c.args.found.now c.loop-i.i c.loop-i.lines c.item_at-one.result _ c.loop-i.invariant c.loop-i-test.true c.item_at-one.ensures
    (λ n m. ap (λ (name : Option (List ℕ)). relocation_line e.index e.rel e.addend name) c.name_in.ensures)
