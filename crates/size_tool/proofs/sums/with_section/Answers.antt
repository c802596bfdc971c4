use Rattle.std.proofs.Common.{refl, arith}
use Rattle.size_tool.proofs.sums.with_section.Goals as goal

pub returns-clause-sums : goal.returns-clause-sums
returns-clause-sums c =
    rw (
      c.size_if-text.ensures.size,
      c.size_if-data.ensures.size,
      c.size_if-bss.ensures.size,
      c.is_text.ensures,
      c.is_data.ensures,
      c.is_bss.ensures,
    ) refl

pub returns-clause-within : goal.returns-clause-within
returns-clause-within c = λ n w. record {
  text = omega (arith, w.text, c.size_if-text.ensures.range);
  «data» = omega (arith, w.«data», c.size_if-data.ensures.range);
  bss = omega (arith, w.bss, c.size_if-bss.ensures.range);
}
