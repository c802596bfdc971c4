use Rattle.std.proofs.Common.{◌≡◌, ℕ, sym, ap, ◌∙◌, arith}
use Rattle.rebuild_numbers.specs.Numbers.{numbers_without}
use Rattle.rebuild_numbers.proofs.NumberLaws.{numbers_more, number_unless_is, next_unless_is, next_fits, numbers_begin, kept_begin}
use Rattle.rebuild_numbers.proofs.numbering.fill_numbers.Goals as goal

pub loop-s-init : goal.loop-s-init
loop-s-init c = record {
  numbers = c.requires ∙ sym (numbers_begin c.args.removed.now);
  next = sym (kept_begin c.args.removed.now);
}

pub next_unless-next-requires : goal.next_unless-next-requires
next_unless-next-requires c =
    omega (
      arith,
      next_fits c.args.removed.now c.loop-s.s c.loop-s.next c.loop-s.invariant.next,
      c.loop-s-test.true,
      c.ranges.count,
    )

pub loop-s-preserved : goal.loop-s-preserved
loop-s-preserved c =
    let inv = c.loop-s.invariant in
    let gone = c.contains-gone.result in
    record {
      numbers = c.in_ok-push.ensures.ok
          ∙ numbers_more c.args.removed.now c.loop-s.numbers c.loop-s.s c.number_unless.result
          inv.numbers
          (number_unless_is c.args.removed.now c.loop-s.s c.loop-s.next gone
          c.contains-gone.ensures inv.next c.number_unless.result c.number_unless.ensures);
      next = next_unless_is c.args.removed.now c.loop-s.s c.loop-s.next gone
          c.contains-gone.ensures inv.next _ c.next_unless-next.ensures;
    }

pub returns-clause-ok : goal.returns-clause-ok
returns-clause-ok c =
    let all : c.loop-s.s ≡ c.args.count =
    omega (arith, c.loop-s-test.false, c.loop-s.auto.s-end) in
    c.loop-s.invariant.numbers ∙ ap (λ (n : ℕ). numbers_without c.args.removed.now n) all
