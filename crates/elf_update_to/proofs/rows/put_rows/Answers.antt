use Rattle.std.proofs.Common.{◌≡◌, ◌+◌, ◌-◌, ◌*◌, ◌≤◌, ℕ, length, drop, ap, arith, length-take, length-drop}
use Rattle.std.proofs.Math.Nat.{mul-le-mul_left}
use Rattle.elf_update_to.proofs.RowLaws.{one_put}
use Rattle.elf_update_to.proofs.rows.put_rows.Goals as goal

pub overflow_add-from : goal.overflow_add-from
overflow_add-from g c = omega (arith, c.loop-i-test.true, c.requires.there, c.row_size-size.ensures.fits)

pub loop-i-preserved : goal.loop-i-preserved
loop-i-preserved g c =
    let size = g.R.WritableRows.size c.args.rows.now in
    let at = c.loop-i.i * c.row_size-size.result in
    let below : c.loop-i.i + 1 ≤ c.args.some = omega (arith, c.loop-i-test.true) in
    let more = mul-le-mul_left {m = c.loop-i.i + 1} {n = c.args.some} (g.R.WritableRows.size c.args.rows.now) below in
    let product : c.loop-i.i * c.row_size-size.result ≡ c.loop-i.i * g.R.WritableRows.size c.args.rows.now =
    ap (λ (n : ℕ). c.loop-i.i * n) c.row_size-size.ensures.size in
    let part = length-take (at + c.row_size-size.result - at) (drop at c.loop-i.out) in
    let rest = length-drop at c.loop-i.out in
    let long : length c.put_row.new.out ≡ g.R.WritableRows.size c.args.rows.now =
    omega (
      arith,
      c.put_row.auto.out,
      part,
      rest,
      c.loop-i.invariant.len,
      more,
      product,
      c.row_size-size.ensures.size,
    ) in
    rw c.row_size-size.ensures.size
    (one_put size c.args.from c.args.some c.loop-i.i (c.loop-i.i * size + size - c.loop-i.i * size)
    (g.R.WritableRows.bytes c.args.rows.now) c.loop-i.out
    c.put_row.new.out below (omega arith) c.loop-i.invariant c.put_row.ensures long)
