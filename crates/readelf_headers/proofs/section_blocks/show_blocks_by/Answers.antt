use Rattle.std.proofs.Common.{length, rules, arith}
use Rattle.std.proofs.lemmas.Result.{err_from_is_err_and}
use Rattle.tool_output.proofs.UnderWayLemmas.{begins, line_shown, stops_at, is_given}
use Rattle.tool_objects.proofs.SectionLemmas.{ok_value_is}
use Rattle.readelf_headers.specs.SectionBlocks.{line_by}
use Rattle.readelf_headers.proofs.SectionBlockLemmas.{lines_left, none_left}
use Rattle.readelf_headers.proofs.section_blocks.show_blocks_by.Goals as goal

pub loop-from-init : goal.loop-from-init
loop-from-init g c = record { lines = begins g.O.Sink g.E.Sink c.args.outputs.now _; keeps = search rules }

pub show_block-requires-clause-there : goal.show_block-requires-clause-there
show_block-requires-clause-there g c =
    let count = ok_value_is _ _ c.shnum-count.ensures in
    omega (arith, count, c.next_block-to.ensures.within)

pub loop-from-preserved : goal.loop-from-preserved
loop-from-preserved g c =
    let o = c.args.elf.now.o in
    let count = ok_value_is _ _ c.shnum-count.ensures in record {
      lines = line_shown c.loop-from.invariant.lines _ _
          (lines_left (line_by o c.args.strings.now) c.loop-from.from c.next_block-to.result (length o.sections)
          (omega (arith, c.next_block-to.ensures.later)) (omega (arith, count, c.next_block-to.ensures.within)))
          c.in_ok-show_block.ensures.reports;
      keeps = search rules;
    }

pub returns-in_err-show_block-clause-reports : goal.returns-in_err-show_block-clause-reports
returns-in_err-show_block-clause-reports g c =
    let o = c.args.elf.now.o in
    let count = ok_value_is _ _ c.shnum-count.ensures in
    let p = err_from_is_err_and c.from_residual.result c.from_residual.ensures.1 in
    rw (p.1, p.2) (stops_at c.loop-from.invariant.lines _ _
    (lines_left (line_by o c.args.strings.now) c.loop-from.from c.next_block-to.result (length o.sections)
    (omega (arith, c.next_block-to.ensures.later)) (omega (arith, count, c.next_block-to.ensures.within)))
    c.in_err-show_block.ensures.reports)

pub returns-clause-reports : goal.returns-clause-reports
returns-clause-reports g c =
    let o = c.args.elf.now.o in
    let count = ok_value_is _ _ c.shnum-count.ensures in
    is_given c.loop-from.invariant.lines
    (none_left (line_by o c.args.strings.now) c.loop-from.from (length o.sections)
    (omega (arith, count, c.loop-from-test.false)))
