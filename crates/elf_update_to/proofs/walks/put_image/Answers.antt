use Rattle.std.proofs.Common.{get_or, ◌∙◌, arith}
use Rattle.std.proofs.lemmas.List.Elements.{All-get_or}
use Rattle.elf_update_plan.specs.law_object.Writing.Plan.{places_below}
use Rattle.elf_update_to.specs.Pieces.{HasLength}
use Rattle.elf_update_plan.specs.Plans.{no_part}
use Rattle.elf_update_to.proofs.WalkLaws.{image_starts, next_ends, gap_stops_image, part_stops_image, image_goes_on, last_gap, kept_ready, kept_base, kept_long, kept_gap, kept_part}
use Rattle.elf_update_to.proofs.walks.put_image.Goals as goal

pub loop-part-init : goal.loop-part-init
loop-part-init g c =
    let p = g.P.ImageParts in
    let o = c.args.parts.now in
    image_starts p g.K.Sink (p.base (p.kept o)) c.args.ground.kept c.args.ground.fill c.args.end
    (p.pieces (p.kept o)) (p.due (p.kept o)) c.args.plan.now
    no_part c.requires.kept o c.args.sink.now c.args.page.now c.requires.line

pub put_gap-requires : goal.put_gap-requires
put_gap-requires g c = record {
  kept =
      kept_base g.P.ImageParts c.args.parts.now c.loop-part.parts
      c.loop-part.invariant.emits.parts.kept c.args.ground.kept c.requires.kept;
}

pub returns-in-Err-clause-emits : goal.returns-in-Err-clause-emits
returns-in-Err-clause-emits g c =
    let p = g.P.ImageParts in
    let o = c.args.parts.now in
    let l = c.loop-part in
    let same = l.invariant.emits.parts.kept in
    gap_stops_image p g.K.Sink (p.base (p.kept o)) c.args.ground.kept c.args.ground.fill c.args.end
    (p.pieces (p.kept o)) (p.due (p.kept o)) c.args.plan.now
    no_part c.requires.kept c.in-Err.e o l.parts c.put_gap.new.parts c.args.sink.now l.sink
    c.put_gap.new.sink c.args.page.now l.page c.put_gap.new.page
    l.part-index l.from c.loop-part-test.true
    (All-get_or (HasLength (p.pieces (p.kept o))) c.args.plan.now l.part-index no_part
    c.loop-part-test.true c.requires.long)
    l.invariant (kept_gap p o l.parts same g.K.Sink _ c.put_gap.new.parts l.sink c.put_gap.new.sink
    l.page c.put_gap.new.page c.args.ground.kept c.args.ground.fill l.from
    (get_or c.args.plan.now l.part-index no_part).at
    (places_below c.args.ground.kept l.from (get_or c.args.plan.now l.part-index no_part).at) c.in-Err.ensures)

pub put_part-requires-clause-ready : goal.put_part-requires-clause-ready
put_part-requires-clause-ready g c =
    kept_ready g.P.ImageParts c.args.parts.now c.put_gap.new.parts (c.in_default.ensures.parts.kept
    ∙ c.loop-part.invariant.emits.parts.kept) c.requires.ready

pub put_part-requires-clause-long : goal.put_part-requires-clause-long
put_part-requires-clause-long g c =
    let p = g.P.ImageParts in
    let o = c.args.parts.now in
    kept_long p o c.put_gap.new.parts (c.in_default.ensures.parts.kept ∙ c.loop-part.invariant.emits.parts.kept)
    (get_or c.args.plan.now c.loop-part.part-index no_part)
    (All-get_or (HasLength (p.pieces (p.kept o))) c.args.plan.now c.loop-part.part-index no_part
    c.loop-part-test.true c.requires.long)

pub returns-in-Err-put_part-clause-emits : goal.returns-in-Err-put_part-clause-emits
returns-in-Err-put_part-clause-emits g c =
    let p = g.P.ImageParts in
    let o = c.args.parts.now in
    let l = c.loop-part in
    let same = l.invariant.emits.parts.kept in
    let after = c.in_default.ensures.parts.kept ∙ l.invariant.emits.parts.kept in
    part_stops_image p g.K.Sink (p.base (p.kept o)) c.args.ground.kept c.args.ground.fill c.args.end
    (p.pieces (p.kept o)) (p.due (p.kept o)) c.args.plan.now
    no_part c.requires.kept c.in-Err-put_part.e o l.parts c.put_gap.new.parts c.put_part.new.parts
    c.args.sink.now l.sink c.put_gap.new.sink c.put_part.new.sink
    c.args.page.now l.page c.put_gap.new.page c.put_part.new.page
    l.part-index l.from c.loop-part-test.true
    (All-get_or (HasLength (p.pieces (p.kept o))) c.args.plan.now l.part-index no_part
    c.loop-part-test.true c.requires.long)
    l.invariant (kept_gap p o l.parts same g.K.Sink _ c.put_gap.new.parts l.sink c.put_gap.new.sink
    l.page c.put_gap.new.page c.args.ground.kept c.args.ground.fill l.from
    (get_or c.args.plan.now l.part-index no_part).at
    (places_below c.args.ground.kept l.from (get_or c.args.plan.now l.part-index no_part).at) c.in_default.ensures)
    (kept_part p o c.put_gap.new.parts after g.K.Sink _ c.put_part.new.parts c.put_gap.new.sink
    c.put_part.new.sink c.put_gap.new.page c.put_part.new.page c.args.ground.fill
    (get_or c.args.plan.now l.part-index no_part).part c.in-Err-put_part.ensures)

pub put_part-requires-clause-small : goal.put_part-requires-clause-small
put_part-requires-clause-small g c =
    let p = g.P.ImageParts in
    let o = c.args.parts.now in
    let l = c.loop-part in
    let ends = next_ends p g.K.Sink (p.base (p.kept o)) c.args.ground.kept c.args.ground.fill
    c.args.end (p.pieces (p.kept o)) (p.due (p.kept o)) c.args.plan.now
    no_part c.requires.kept o l.parts c.args.sink.now l.sink c.args.page.now l.page l.part-index
    l.from c.loop-part-test.true
    (All-get_or (HasLength (p.pieces (p.kept o))) c.args.plan.now l.part-index no_part
    c.loop-part-test.true c.requires.long) l.invariant in
    omega (arith, ends, c.ranges.end)

pub overflow_add-from : goal.overflow_add-from
overflow_add-from g c =
    let p = g.P.ImageParts in
    let o = c.args.parts.now in
    let l = c.loop-part in
    let ends = next_ends p g.K.Sink (p.base (p.kept o)) c.args.ground.kept c.args.ground.fill
    c.args.end (p.pieces (p.kept o)) (p.due (p.kept o)) c.args.plan.now
    no_part c.requires.kept o l.parts c.args.sink.now l.sink c.args.page.now l.page l.part-index
    l.from c.loop-part-test.true
    (All-get_or (HasLength (p.pieces (p.kept o))) c.args.plan.now l.part-index no_part
    c.loop-part-test.true c.requires.long) l.invariant in
    omega (arith, ends, c.ranges.end)

pub loop-part-preserved : goal.loop-part-preserved
loop-part-preserved g c =
    let p = g.P.ImageParts in
    let o = c.args.parts.now in
    let l = c.loop-part in
    let same = l.invariant.emits.parts.kept in
    let after = c.in_default.ensures.parts.kept ∙ l.invariant.emits.parts.kept in
    image_goes_on p g.K.Sink (p.base (p.kept o)) c.args.ground.kept c.args.ground.fill c.args.end
    (p.pieces (p.kept o)) (p.due (p.kept o)) c.args.plan.now
    no_part c.requires.kept o l.parts c.put_gap.new.parts c.put_part.new.parts c.args.sink.now
    l.sink c.put_gap.new.sink c.put_part.new.sink
    c.args.page.now l.page c.put_gap.new.page c.put_part.new.page
    l.part-index l.from c.loop-part-test.true
    (All-get_or (HasLength (p.pieces (p.kept o))) c.args.plan.now l.part-index no_part
    c.loop-part-test.true c.requires.long)
    l.invariant (kept_gap p o l.parts same g.K.Sink _ c.put_gap.new.parts l.sink c.put_gap.new.sink
    l.page c.put_gap.new.page c.args.ground.kept c.args.ground.fill l.from
    (get_or c.args.plan.now l.part-index no_part).at
    (places_below c.args.ground.kept l.from (get_or c.args.plan.now l.part-index no_part).at) c.in_default.ensures)
    (kept_part p o c.put_gap.new.parts after g.K.Sink _ c.put_part.new.parts c.put_gap.new.sink
    c.put_part.new.sink c.put_gap.new.page c.put_part.new.page c.args.ground.fill
    (get_or c.args.plan.now l.part-index no_part).part c.in_default-put_part.ensures)

pub put_end-requires : goal.put_end-requires
put_end-requires g c = record {
  kept =
      kept_base g.P.ImageParts c.args.parts.now c.loop-part.parts
      c.loop-part.invariant.emits.parts.kept c.args.ground.kept c.requires.kept;
}

pub returns-clause-emits : goal.returns-clause-emits
returns-clause-emits g c =
    let p = g.P.ImageParts in
    let o = c.args.parts.now in
    let l = c.loop-part in
    last_gap p g.K.Sink (p.base (p.kept o)) c.args.ground.kept c.args.ground.fill c.args.end
    (p.pieces (p.kept o)) (p.due (p.kept o)) c.args.plan.now
    no_part c.requires.kept c.put_end.result o l.parts c.put_end.new.parts c.args.sink.now l.sink
    c.put_end.new.sink c.args.page.now l.page c.put_end.new.page
    l.part-index l.from (omega (arith, c.loop-part-test.false)) l.invariant
    (kept_gap p o l.parts l.invariant.emits.parts.kept g.K.Sink _ c.put_end.new.parts l.sink
    c.put_end.new.sink l.page c.put_end.new.page c.args.ground.kept c.args.ground.fill l.from
    c.args.end
    (places_below c.args.ground.kept l.from c.args.end) c.put_end.ensures.emits)
