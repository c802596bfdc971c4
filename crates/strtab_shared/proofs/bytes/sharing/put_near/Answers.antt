use Rattle.std.proofs.Common.{ℕ, List, drop, take, length, refl, ap, arith}
use Rattle.strtab_shared.proofs.bytes.PartLaws.{puts_as}
use Rattle.strtab_shared.proofs.bytes.ShareLaws.{range_is}
use Rattle.strtab_shared.proofs.bytes.sharing.put_near.Goals as goal

pub share_range-requires-clause-inside : goal.share_range-requires-clause-inside
share_range-requires-clause-inside c =
    let same = ap (λ (l : List ℕ). length l) c.as_slice.ensures in
    let inside = c.stands_at.ensures.inside c.if-stands_at.true in
    omega (arith, same, inside)

pub returns-then-stands_at : goal.returns-then-stands_at
returns-then-stands_at c =
    puts_as (take (length c.args.bytes.now) (drop c.args.near c.args.parts.now.text)) c.args.bytes.now
    c.share_range.result c.args.parts.now c.args.parts.now c.share_range.new.parts refl
    (range_is c.args.parts.now.text c.as_slice.result.now c.args.bytes.now c.args.near
    (length c.args.bytes.now) c.as_slice.ensures refl
    (c.stands_at.ensures.same c.if-stands_at.true))
    c.share_range.ensures.puts
