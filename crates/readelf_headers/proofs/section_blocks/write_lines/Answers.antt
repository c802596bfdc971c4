use Rattle.std.proofs.Common.{◌≡◌, ◌+◌, ◌-◌, ◌++◌, List, ℕ, sym, ap, ◌∙◌, arith}
use Rattle.readelf_rows.proofs.FrontLemmas.{stands_before, begins_inside}
use Rattle.readelf_headers.specs.SectionBlocks.{line_by, lines_by}
use Rattle.readelf_headers.proofs.SectionBlockLemmas.{line_is, lines_more}
use Rattle.readelf_headers.proofs.section_blocks.write_lines.Goals as goal

pub loop-i-preserved : goal.loop-i-preserved
loop-i-preserved g c =
    let o = c.args.elf.now.o in
    let strings = c.args.strings.now in
    let i = c.loop-i.i in
    let next : i - 1 + 1 ≡ i = omega (arith, c.loop-i-test.true) in
    let inside = c.loop-i.invariant.inside in record {
      inside = begins_inside c.in_ok-at.ensures inside;
      below = omega (arith, c.loop-i-test.true);
      within = omega (arith, c.loop-i.invariant.within);
      wrote = stands_before c.in_ok-at.ensures c.loop-i.invariant.wrote
          ∙ ap (λ (t : List ℕ). t ++ lines_by o strings i c.args.to)
          (line_is o strings (i - 1) _ _ c.section_header-header.ensures c.table_string_from-name.ensures)
          ∙ ap (λ (n : ℕ). line_by o strings (i - 1) ++ lines_by o strings n c.args.to) (sym next)
          ∙ sym (lines_more (line_by o strings) (i - 1) c.args.to
          (omega (arith, c.loop-i-test.true, c.loop-i.invariant.within)));
    }
