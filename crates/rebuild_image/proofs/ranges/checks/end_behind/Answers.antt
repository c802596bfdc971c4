use Rattle.std.proofs.Common.{◌≡◌, ◌∙◌, sym, arith}
use Rattle.rebuild_image.specs.Ranges.Ranges.{kept_of_parts}
use Rattle.rebuild_image.proofs.ranges.CheckLaws.{ranged_length, behind_sum}
use Rattle.rebuild_image.proofs.ranges.checks.end_behind.Goals as goal

pub returns-then-len-part : goal.returns-then-len-part
returns-then-len-part g c = λ stands.
    let long = ranged_length (kept_of_parts g.S.Source c.args.parts.now) c.args.part.part c.requires
    in
    let same : c.range_len-len.result ≡ c.args.part.len =
    c.range_len-len.ensures ∙ sym long ∙ sym stands.long in
    omega (arith, same, c.if-len-part.true)

pub returns-then-part-end : goal.returns-then-part-end
returns-then-part-end g c = λ stands.
    let first = stands.first in
    omega (arith, first, c.if-part-end.true)

pub returns : goal.returns
returns g c =
    let k = kept_of_parts g.S.Source c.args.parts.now in
    behind_sum k c.args.part c.args.end c.checked_add.result
    (sym c.if-len-part.false ∙ c.range_len-len.ensures
    ∙ sym (ranged_length k c.args.part.part c.requires))
    (omega (arith, c.if-part-end.false)) c.checked_add.ensures
