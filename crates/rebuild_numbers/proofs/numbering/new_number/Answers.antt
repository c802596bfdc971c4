use Rattle.rebuild_numbers.proofs.NumberLaws.{section_number, renumbered_some, renumbered_none, number_below}
use Rattle.rebuild_numbers.proofs.numbering.new_number.Goals as goal

pub number_at-number-requires : goal.number_at-number-requires
number_at-number-requires c =
    (section_number c.args.numbers.now c.args.n c.requires.section).1

pub returns-then-number-eq0-clause-value : goal.returns-then-number-eq0-clause-value
returns-then-number-eq0-clause-value c =
    renumbered_none c.args.numbers.now c.args.n c.number_at-number.result c.requires.section
    c.number_at-number.ensures c.if-number-eq0.true

pub returns-clause-value : goal.returns-clause-value
returns-clause-value c =
    renumbered_some c.args.numbers.now c.args.n c.number_at-number.result c.requires.numbering
    c.requires.section c.number_at-number.ensures c.if-number-eq0.false

pub returns-clause-below : goal.returns-clause-below
returns-clause-below c =
    number_below c.args.numbers.now c.args.n c.number_at-number.result c.requires.numbering
    c.requires.section c.number_at-number.ensures
