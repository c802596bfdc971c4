use Rattle.std.proofs.Common.{refl}
use Rattle.std.specs.Prelude.{is_some}
use Rattle.rebuild_image.specs.Ranges.Ranges.{kept_of_parts}
use Rattle.rebuild_image.specs.Ranges.Images.{ranged_text, ranged_asks}
use Rattle.rebuild_image.proofs.ranges.WalkLaws.{image_put, nothing_put, nothing_used, nothing_read, source_read, memory_stops, walk_stops, kept_within}
use Rattle.rebuild_image.proofs.ranges.images.RangedImageImage.put_to.Goals as goal

pub returns-in-Err-clause-puts : goal.returns-in-Err-clause-puts
returns-in-Err-clause-puts g c =
    nothing_put g.K.Sink c.in-Err.e c.args.sink.now (is_some (g.S.Source.holds c.args.self.now.parts.source)) _
    c.in-Err.ensures.err

pub returns-in-Err-clause-sink : goal.returns-in-Err-clause-sink
returns-in-Err-clause-sink g c = nothing_used g.K.Sink c.in-Err.e c.args.sink.now
    c.in-Err.ensures.err

pub returns-in-Err-clause-source : goal.returns-in-Err-clause-source
returns-in-Err-clause-source g c =
    nothing_read g.S.Source c.in-Err.e c.args.self.now.parts.source _ c.in-Err.ensures.err

pub returns-in-Err-clause-stops : goal.returns-in-Err-clause-stops
returns-in-Err-clause-stops g c = memory_stops c.in-Err.e c.in-Err.ensures.err

pub put_image-requires-clause-ready : goal.put_image-requires-clause-ready
put_image-requires-clause-ready g c = c.requires.inside

pub put_image-requires-clause-kept : goal.put_image-requires-clause-kept
put_image-requires-clause-kept g c =
    kept_within (kept_of_parts g.S.Source c.args.self.now.parts) c.args.self.now.parts.kept refl
    c.requires.kept

pub put_image-requires-clause-long : goal.put_image-requires-clause-long
put_image-requires-clause-long g c = rw c.as_slice.ensures c.requires.long

pub put_image-requires-clause-line : goal.put_image-requires-clause-line
put_image-requires-clause-line g c = rw c.as_slice.ensures c.requires.line

pub returns-clause-puts : goal.returns-clause-puts
returns-clause-puts g c =
    image_put _ g.K.Sink c.args.self.now.parts c.put_image.new.parts c.args.sink.now
    c.put_image.new.sink c.in-Ok.page c.put_image.new.page
    (ranged_text (kept_of_parts g.S.Source c.args.self.now.parts) c.args.self.now.plan
    c.args.self.now.end)
    (ranged_asks (kept_of_parts g.S.Source c.args.self.now.parts) c.args.self.now.plan
    c.args.self.now.end)
    c.in-Ok.ensures.ok c.put_image.result (is_some (g.S.Source.holds c.args.self.now.parts.source))
    (rw c.as_slice.ensures at c.put_image.ensures.emits) c.put_image.ensures.empty refl

pub returns-clause-sink : goal.returns-clause-sink
returns-clause-sink g c = c.put_image.ensures.emits.flows.uses

pub returns-clause-source : goal.returns-clause-source
returns-clause-source g c =
    source_read _ g.S.Source c.put_image.result c.args.self.now.parts c.put_image.new.parts
    (ranged_asks (kept_of_parts g.S.Source c.args.self.now.parts) c.args.self.now.plan
    c.args.self.now.end)
    (λ a b h. h) (λ a. refl) (λ a. refl)
    (rw c.as_slice.ensures at c.put_image.ensures.emits.parts)

pub returns-clause-stops : goal.returns-clause-stops
returns-clause-stops g c = walk_stops c.put_image.result c.put_image.ensures.emits.err
