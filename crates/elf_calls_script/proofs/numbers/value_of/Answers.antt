use Rattle.std.proofs.Common.{◌<◌, length, sym, ap, ◌∙◌, arith}
use Rattle.std.specs.Char.{digit_value}
use Rattle.elf_calls_script.proofs.Values.{valued_begin, digit_next, valued_next, valued_refused, valued_end}
use Rattle.elf_calls_script.proofs.numbers.value_of.Goals as goal

pub loop-byte-init : goal.loop-byte-init
loop-byte-init c = valued_begin _ _ c.requires.digits

pub returns-in_err-digit : goal.returns-in_err-digit
returns-in_err-digit c =
    let here : c.loop-byte.byte-index < length c.args.digits.now = omega arith in
    absurd (c.in_err-digit.ensures.value (rw c.from.ensures (digit_next _ _ _ _ c.loop-byte.invariant here)))

pub returns-in_err-value : goal.returns-in_err-value
returns-in_err-value c =
    c.from_residual-in_err-value.ensures
    ∙ sym (valued_refused c.args.radix c.args.digits.now c.loop-byte.byte-index c.loop-byte.value c.in_ok-digit.digit c.loop-byte.invariant (omega arith) (omega arith)
    (c.in_ok-digit.ensures.value.1 ∙ ap digit_value c.from.ensures) (sym c.with_digit.ensures ∙ c.in_err-value.was))

pub loop-byte-preserved : goal.loop-byte-preserved
loop-byte-preserved c =
    valued_next c.args.radix c.args.digits.now c.loop-byte.byte-index c.loop-byte.value c.in_ok-digit.digit c.in_ok-value.value c.loop-byte.invariant (omega arith)
    (c.in_ok-digit.ensures.value.1 ∙ ap digit_value c.from.ensures) (sym c.with_digit.ensures ∙ c.in_ok-value.was)

pub returns : goal.returns
returns c = sym (valued_end _ _ _ _ c.loop-byte.invariant (omega arith))
