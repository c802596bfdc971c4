use Rattle.std.proofs.Common.{◌∙◌}
use Rattle.nm_tool.proofs.HeaderLemmas.{letter_there, letter_missing}
use Rattle.nm_tool.proofs.letters.numbered_letter.Goals as goal

pub returns-in-Some-clause-letter : goal.returns-in-Some-clause-letter
returns-in-Some-clause-letter g c = λ o has.
    c.section_letter.ensures.letter
    ∙ letter_there o _ _ has c.args.n c.in-Some.header c.in-Some.ensures

pub returns-in-None-clause-letter : goal.returns-in-None-clause-letter
returns-in-None-clause-letter g c = λ o has.
    letter_missing o _ _ has c.args.n c.in-None.ensures
