use Rattle.std.proofs.Common.{◌≡◌, ◌-◌, length, sym, subst, get_or, arith, ◌∙◌}
use Rattle.ar_members.proofs.Digits.{ReadsDigits, number_stops, number_whole, number_fits, digit_within}
use Rattle.ar_members.proofs.numbers.number.Goals as goal

pub returns-then-not-is_digit-clause-value : goal.returns-then-not-is_digit-clause-value
returns-then-not-is_digit-clause-value c =
    c.then_some.ensures
    ∙ number_stops c.args.base c.args.field.now c.loop-i.i c.loop-i.value c.is_blank.result c.loop-i-test.true (sym c.is_digit.ensures ∙ c.if-not-is_digit.true) c.loop-i.invariant c.is_blank.ensures

pub overflow_mul-value : goal.overflow_mul-value
overflow_mul-value c =
    let small = number_fits c.args.base c.loop-i.value c.loop-i.i 0 c.requires.base (omega arith) (omega arith) c.loop-i.invariant.small in
    rw c.from.ensures (omega (arith, small))

pub overflow_add-value : goal.overflow_add-value
overflow_add-value c =
    let range = digit_within c.args.base (get_or c.args.field.now c.loop-i.i 0) (sym c.is_digit.ensures ∙ c.if-not-is_digit.false) in
    let small = number_fits c.args.base c.loop-i.value c.loop-i.i (get_or c.args.field.now c.loop-i.i 0 - 48) c.requires.base (omega (arith, range)) (omega arith) c.loop-i.invariant.small in
    rw (c.from.ensures, c.from-in-loop-i.ensures) (omega (arith, small))

pub returns-clause-value : goal.returns-clause-value
returns-clause-value c =
    let all : c.loop-i.i ≡ length c.args.field.now = omega arith in
    sym (number_whole c.args.base c.args.field.now c.loop-i.value (subst (λ n. ReadsDigits c.args.base c.args.field.now n c.loop-i.value) all c.loop-i.invariant))
