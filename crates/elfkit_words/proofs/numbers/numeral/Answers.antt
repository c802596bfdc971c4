use Rattle.std.proofs.Common.{◌∙◌, arith, rules}
use Rattle.elfkit_words.proofs.Numerals.{numeral_read}
use Rattle.elfkit_words.proofs.numbers.numeral.Goals as goal

pub returns : goal.returns
returns c =
    c.ok.ensures.value ∙ numeral_read c.args.radix c.args.most c.args.word.now c.from_str_radix.result c.requires.high (omega arith) (search rules) c.from_str_radix.ensures.value
