use Rattle.std.proofs.Common.{◌+◌, arith, refl, rules}
use Rattle.std.proofs.lemmas.Result.{err_from_is_err_and}
use Rattle.ar_members.proofs.Told.{told_by}
use Rattle.tool_objects.proofs.SourceSteps.{way_begins, way_goes_on, way_stops_at}
use Rattle.strings_tool.specs.Homes.{section_homes_report}
use Rattle.strings_tool.proofs.SectionLemmas.{left_sections, sections_left, no_sections_left, way_given, asks_begin, asks_go_on, asks_end}
use Rattle.strings_tool.proofs.homes.show_section_homes.Goals as goal

pub loop-i-init : goal.loop-i-init
unfolding section_homes_report
loop-i-init g c = record {
  way = way_begins g.S.Source g.O.Sink g.E.Sink c.args.src.now c.args.outputs.now _;
  asked = asks_begin c.args.headers.now (g.S.Source.holds c.args.src.now) _;
  room = c.requires.room;
}

pub returns-in_err-was_refused-clause-reports : goal.returns-in_err-was_refused-clause-reports
returns-in_err-was_refused-clause-reports g c =
    let options = c.args.options.now in
    let name = c.args.name.now in
    let headers = c.args.headers.now in
    let i = c.loop-i.i in
    let p = err_from_is_err_and c.from_residual.result c.from_residual.ensures.1 in
    rw (p.1, p.2) (way_stops_at c.loop-i.invariant.way _ (λ image. left_sections options name headers image (i + 1))
    (told_by (g.S.Source.holds c.loop-i.src) (λ image there. sections_left options name headers image i _ c.loop-i-test.true (search rules)))
    c.in_err-was_refused.ensures.reports)

pub loop-i-preserved : goal.loop-i-preserved
loop-i-preserved g c =
    let options = c.args.options.now in
    let name = c.args.name.now in
    let headers = c.args.headers.now in
    let i = c.loop-i.i in
    let room = c.loop-i.invariant.room in record {
      way = way_goes_on c.loop-i.invariant.way _ (λ image. left_sections options name headers image (i + 1))
          (told_by (g.S.Source.holds c.loop-i.src) (λ image there. sections_left options name headers image i _ c.loop-i-test.true (search rules)))
          c.in_ok-was_refused.ensures.reports refl;
      asked = asks_go_on headers i _ (g.S.Source.holds c.args.src.now) _ _ _ _ c.loop-i-test.true (search rules)
          c.loop-i.invariant.way.source.same_bytes c.loop-i.invariant.asked c.in_ok-was_refused.ensures.asks;
      room = omega (arith, c.in_ok-was_refused.ensures.room, room);
    }

pub returns-in_err-was_refused-clause-asks : goal.returns-in_err-was_refused-clause-asks
returns-in_err-was_refused-clause-asks g c =
    let headers = c.args.headers.now in
    let i = c.loop-i.i in
    asks_end headers (i + 1) (g.S.Source.holds c.args.src.now) _ _
    (asks_go_on headers i _ (g.S.Source.holds c.args.src.now) _ _ _ _ c.loop-i-test.true (search rules)
    c.loop-i.invariant.way.source.same_bytes c.loop-i.invariant.asked c.in_err-was_refused.ensures.asks)

pub returns-clause-asks : goal.returns-clause-asks
returns-clause-asks g c =
    asks_end c.args.headers.now c.loop-i.i (g.S.Source.holds c.args.src.now) _ _ c.loop-i.invariant.asked

pub returns-clause-reports : goal.returns-clause-reports
returns-clause-reports g c =
    way_given g.S.Source g.O.Sink g.E.Sink c.loop-i.invariant.way
    (told_by (g.S.Source.holds c.loop-i.src) (λ image there. no_sections_left c.args.options.now c.args.name.now c.args.headers.now image c.loop-i.i c.loop-i-test.false))
