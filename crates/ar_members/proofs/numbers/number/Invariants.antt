use Rattle.ar_members.proofs.Digits.{ReadsDigits}
use Rattle.ar_members.proofs.numbers.number.Given as goal

abbrev pub invariant-loop-i : goal.invariant-loop-i
invariant-loop-i l = ReadsDigits l.base l.field l.i l.value
