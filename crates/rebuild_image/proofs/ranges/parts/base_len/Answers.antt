use Rattle.std.proofs.Common.{sym, ◌∙◌}
use Rattle.rebuild_image.proofs.ranges.RangeLaws.{bytes_long}
use Rattle.rebuild_image.proofs.ranges.parts.base_len.Goals as goal

pub returns : goal.returns
returns g c =
    c.len.ensures.size
    ∙ sym (bytes_long (g.S.Source.holds c.args.src.now) (g.S.Source.size c.args.src.now)
    (g.met.S.Source.sized c.args.src.now))
