use Rattle.std.proofs.Common.{ap, ◌∙◌}
use Rattle.nm_tool.specs.Letters.{letter_by, symbol_letter}
use Rattle.nm_tool.proofs.letters.symbol_letter.Goals as goal

pub returns : goal.returns
unfolding symbol_letter
returns g c = λ o has.
    c.letter_by.ensures
    ∙ ap (letter_by c.args.x.now c.args.place) (c.place_letter-letter.ensures.letter o has)
