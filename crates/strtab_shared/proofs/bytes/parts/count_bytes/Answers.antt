use Rattle.std.proofs.Common.{◌+◌, ◌-◌, ℕ, ap, ◌∙◌, arith}
use Rattle.strtab_shared.proofs.bytes.PartLaws.{whole_long, whole_small}
use Rattle.strtab_shared.proofs.bytes.parts.count_bytes.Goals as goal

pub overflow_sub-open : goal.overflow_sub-open
overflow_sub-open c = omega (arith, c.len-held.ensures, c.requires.inside)

pub overflow_add-result : goal.overflow_add-result
overflow_add-result c =
    let long = whole_long c.args.parts.now c.requires in
    let small = whole_small c.args.parts.now c.requires in
    omega (arith, long, small, c.len-held.ensures)

pub returns : goal.returns
returns c =
    ap (λ (n : ℕ). c.args.parts.now.count + (n - c.args.parts.now.tail)) c.len-held.ensures
    ∙ whole_long c.args.parts.now c.requires
