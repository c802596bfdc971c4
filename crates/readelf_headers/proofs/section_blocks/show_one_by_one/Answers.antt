use Rattle.std.proofs.Common.{rules, arith}
use Rattle.std.proofs.lemmas.Result.{err_from_is_err_and}
use Rattle.tool_output.proofs.UnderWayLemmas.{begins, line_shown, stops_at, is_given}
use Rattle.readelf_headers.specs.SectionBlocks.{line_by}
use Rattle.readelf_headers.proofs.SectionBlockLemmas.{line_is_left, none_left}
use Rattle.readelf_headers.proofs.section_blocks.show_one_by_one.Goals as goal

pub loop-i-init : goal.loop-i-init
loop-i-init g c = record { lines = begins g.O.Sink g.E.Sink c.args.outputs.now _; keeps = search rules }

pub loop-i-preserved : goal.loop-i-preserved
loop-i-preserved g c = record {
  lines = line_shown c.loop-i.invariant.lines _ _
      (line_is_left c.args.elf.now.o c.args.strings.now c.loop-i.i _ _
      c.section_header-header.ensures c.table_string_from.ensures c.args.to (omega (arith, c.loop-i-test.true)))
      c.in_ok-show.ensures.reports;
  keeps = search rules;
}

pub returns-in_err-show-clause-reports : goal.returns-in_err-show-clause-reports
returns-in_err-show-clause-reports g c =
    let p = err_from_is_err_and c.from_residual.result c.from_residual.ensures.1 in
    rw (p.1, p.2) (stops_at c.loop-i.invariant.lines _ _
    (line_is_left c.args.elf.now.o c.args.strings.now c.loop-i.i _ _
    c.section_header-header.ensures c.table_string_from.ensures c.args.to (omega (arith, c.loop-i-test.true)))
    c.in_err-show.ensures.reports)

pub returns-clause-reports : goal.returns-clause-reports
returns-clause-reports g c =
    is_given c.loop-i.invariant.lines
    (none_left (line_by c.args.elf.now.o c.args.strings.now) c.loop-i.i c.args.to
    (omega (arith, c.loop-i-test.false)))
