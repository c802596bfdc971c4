use Rattle.std.proofs.Common.{◌≡◌, false, arith}
use Rattle.rebuild_image.specs.Ranges.Ranges.{kept_of_parts}
use Rattle.rebuild_image.proofs.ranges.CheckLaws.{image_ready_of, planned_of, never_both}
use Rattle.rebuild_image.proofs.ranges.images.RangedImage.is_ready.Goals as goal

pub returns-then-not-are_inside-clause-exact : goal.returns-then-not-are_inside-clause-exact
returns-then-not-are_inside-clause-exact g c = λ ready.
    let no : c.are_inside.result ≡ false = cc in
    absurd (never_both c.are_inside.result (c.are_inside.ensures.1 ready.inside) no)

pub returns-then-self-len-clause-exact : goal.returns-then-self-len-clause-exact
returns-then-self-len-clause-exact g c = λ ready.
    let most = ready.kept in
    let base = c.base_len-len.ensures in
    absurd (omega (arith, most, base, c.if-self-len.true))

pub are_planned-requires : goal.are_planned-requires
are_planned-requires g c = c.are_inside.ensures.0 c.if-not-are_inside.false

pub returns-clause-ready : goal.returns-clause-ready
returns-clause-ready g c = λ is.
    image_ready_of (kept_of_parts g.S.Source c.args.self.now.parts) c.as_slice.result.now
    c.args.self.now.plan c.args.self.now.end c.base_len-len.result c.as_slice.ensures
    (c.are_inside.ensures.0 c.if-not-are_inside.false) c.base_len-len.ensures
    (omega (arith, c.if-self-len.false)) (c.are_planned.ensures.0 is)

pub returns-clause-exact : goal.returns-clause-exact
returns-clause-exact g c = λ ready.
    c.are_planned.ensures.1
    (planned_of (kept_of_parts g.S.Source c.args.self.now.parts) c.as_slice.result.now
    c.args.self.now.plan c.args.self.now.end c.as_slice.ensures ready)
