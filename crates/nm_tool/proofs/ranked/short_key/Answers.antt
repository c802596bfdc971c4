use Rattle.std.proofs.Common.{◌<◌, ◌∙◌, refl, arith}
use Rattle.nm_tool.specs.Ranked.{number_from}
use Rattle.nm_tool.proofs.Keys.{key_more, word_fits, number_next}
use Rattle.nm_tool.proofs.ranked.short_key.Goals as goal

pub loop-i-init : goal.loop-i-init
unfolding number_from
loop-i-init c = record { key = refl; small = omega arith }

pub overflow_mul-key : goal.overflow_mul-key
overflow_mul-key c =
    let fits = word_fits c.loop-i.i c.loop-i.key 0 c.loop-i-test.true c.loop-i.invariant.small
    (omega arith) in
    omega (arith, fits)

pub overflow_add-key : goal.overflow_add-key
overflow_add-key c =
    let byte : c.from.result < 256 = omega (arith, c.from.ensures, c.byte_at.ensures.small) in
    let fits = word_fits c.loop-i.i c.loop-i.key c.from.result c.loop-i-test.true
    c.loop-i.invariant.small byte in
    omega (arith, fits)

pub loop-i-preserved : goal.loop-i-preserved
loop-i-preserved c =
    let byte : c.from.result < 256 = omega (arith, c.from.ensures, c.byte_at.ensures.small) in
    record {
      key = number_next c.args.place c.loop-i.i c.loop-i.key c.from.result c.args.name.now
          c.loop-i.invariant.key (c.from.ensures ∙ c.byte_at.ensures.value);
      small = key_more c.loop-i.i c.loop-i.key c.from.result c.loop-i.invariant.small byte;
    }
