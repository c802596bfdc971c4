use Rattle.std.proofs.Common.{◌+◌, drop, refl, rules, ◌∙◌}
use Rattle.std.proofs.lemmas.Result.{err_from_is_err_and}
use Rattle.tool_output.specs.Reports.{reports_of}
use Rattle.tool_output.proofs.UnderWayLemmas.{reports_left, no_reports_left}
use Rattle.tool_objects.proofs.ElfSteps.{elf_begins, elf_goes_on, elf_stops_at, elf_is_given, elf_failed, over_more}
use Rattle.readelf_tool.specs.Parts.{letters, letter_part, readelf_report}
use Rattle.readelf_tool.proofs.PartLemmas.{part_unread, passes_next, passes_within}
use Rattle.readelf_tool.proofs.parts.show_parts.Goals as goal

pub loop-letter-init : goal.loop-letter-init
unfolding readelf_report
loop-letter-init g c = record {
  report = elf_begins g.S.Source g.O.Sink g.E.Sink c.args.elf.now c.args.outputs.now _;
  unread = λ off. refl;
}

pub loop-letter-preserved : goal.loop-letter-preserved
loop-letter-preserved g c =
    let parts = c.args.parts.now in
    let name = c.args.name.now in
    let i = c.loop-letter.letter-index in record {
      report = over_more (elf_goes_on c.loop-letter.invariant.report _
          (λ o. reports_of (λ l. letter_part parts name l o) (drop (i + 1) letters))
          (λ told. reports_left (λ l. letter_part parts name l c.args.elf.now.o) letters i _
          c.loop-letter-test.true (search rules))
          c.in_ok-was_refused.ensures.reports refl) _
          (passes_next parts _ i c.loop-letter-test.true (search rules));
      unread = λ off. c.in_ok-was_refused.ensures.unread (part_unread parts _ i c.loop-letter-test.true (search rules) off) ∙ c.loop-letter.invariant.unread off;
    }

pub returns-in_err-was_refused-clause-reports : goal.returns-in_err-was_refused-clause-reports
returns-in_err-was_refused-clause-reports g c =
    let parts = c.args.parts.now in
    let name = c.args.name.now in
    let i = c.loop-letter.letter-index in
    let p = err_from_is_err_and c.from_residual.result c.from_residual.ensures.1 in
    rw (p.1, p.2) (elf_failed g.S.Source g.O.Sink g.E.Sink _ _ c.args.elf.now _ c.args.outputs.now _
    (elf_stops_at c.loop-letter.invariant.report _
    (λ o. reports_of (λ l. letter_part parts name l o) (drop (i + 1) letters))
    (λ told. reports_left (λ l. letter_part parts name l c.args.elf.now.o) letters i _
    c.loop-letter-test.true (search rules))
    c.in_err-was_refused.ensures.reports))

pub returns-in_err-was_refused-clause-unread : goal.returns-in_err-was_refused-clause-unread
returns-in_err-was_refused-clause-unread g c = λ off.
    c.in_err-was_refused.ensures.unread (part_unread c.args.parts.now _ c.loop-letter.letter-index c.loop-letter-test.true (search rules) off) ∙ c.loop-letter.invariant.unread off

pub returns-clause-reports : goal.returns-clause-reports
returns-clause-reports g c =
    elf_is_given (over_more c.loop-letter.invariant.report _
    (passes_within c.args.parts.now c.loop-letter.letter-index))
    (λ told. no_reports_left (λ l. letter_part c.args.parts.now c.args.name.now l c.args.elf.now.o) letters c.loop-letter.letter-index c.loop-letter-test.false)
