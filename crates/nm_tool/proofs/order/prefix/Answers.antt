use Rattle.std.proofs.Common.{◌<◌, ◌∙◌, refl, arith}
use Rattle.nm_tool.specs.Keys.{prefix}
use Rattle.nm_tool.proofs.Keys.{key_more, key_fits, prefix_next}
use Rattle.nm_tool.proofs.order.prefix.Goals as goal

pub loop-place-init : goal.loop-place-init
unfolding prefix
loop-place-init c = record { key = refl; small = omega arith }

pub overflow_mul-key : goal.overflow_mul-key
overflow_mul-key c =
    let fits = key_fits c.loop-place.place c.loop-place.key 0 c.loop-place-test.true c.loop-place.invariant.small (omega arith) in
    omega (arith, fits)

pub overflow_add-key : goal.overflow_add-key
overflow_add-key c =
    let byte : c.from.result < 256 = omega (arith, c.from.ensures, c.byte_at.ensures.small) in
    let fits = key_fits c.loop-place.place c.loop-place.key c.from.result c.loop-place-test.true c.loop-place.invariant.small byte in
    omega (arith, fits)

pub loop-place-preserved : goal.loop-place-preserved
loop-place-preserved c =
    let byte : c.from.result < 256 = omega (arith, c.from.ensures, c.byte_at.ensures.small) in record {
      key = prefix_next c.loop-place.place c.loop-place.key c.from.result c.args.name.now c.loop-place.invariant.key (c.from.ensures ∙ c.byte_at.ensures.value);
      small = key_more c.loop-place.place c.loop-place.key c.from.result c.loop-place.invariant.small byte;
    }
