use Rattle.std.proofs.Common.{◌∙◌, ◌-◌, ap}
use Rattle.rebuild_image.proofs.listed.StoreLaws.{header_placed}
use Rattle.rebuild_image.proofs.listed.stored.placed_header.Goals as goal

pub returns : goal.returns
returns c = λ o is.
    header_placed o c.args.x.now c.args.places.now c.as_slice-at.result.now
    c.saturating_sub-last.result c.derived_header.result c.as_slice-at.ensures
    (c.saturating_sub-last.ensures ∙ ap (λ n. n - 1) c.len-count.ensures) c.derived_header.ensures
    is
