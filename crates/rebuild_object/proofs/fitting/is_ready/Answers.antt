use Rattle.std.proofs.Common.{arith}
use Rattle.rebuild_object.proofs.fitting.is_ready.Goals as goal

pub returns : goal.returns
returns g c = λ all. record {
  front = c.is_front_ready.ensures c.if-not-is_front_ready.false;
  counted = c.are_counted.ensures c.if-not-are_counted.false;
  header = rw c.len.ensures at
      (c.is_header_ready.ensures c.if-not-is_header_ready.false);
  first = c.is_first_ready.ensures c.if-not-is_first_ready.false;
  sections = c.are_ready.ensures all;
  sizes = c.are_sizes_ready.ensures c.if-not-are_sizes_ready.false;
  held = c.are_ranged.ensures;
  small =
      let at = c.len-held.ensures in let fits = c.len-held.type_inv in omega (arith, at, fits);
}
