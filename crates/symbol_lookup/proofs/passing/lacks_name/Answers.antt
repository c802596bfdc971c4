use Rattle.symbol_lookup.proofs.AtHand.{rest_is, no_room, other_end, other_front}
use Rattle.symbol_lookup.proofs.passing.lacks_name.Goals as goal

pub returns : goal.returns
returns c = λ none.
    other_front c.args.bytes.now c.args.offset c.args.name.now _ (rest_is c.args.bytes.now c.args.offset) c.if-offset-bytes.false c.starts_with.result c.starts_with.ensures.value none

pub returns-then-rest-name : goal.returns-then-rest-name
returns-then-rest-name c = λ _. no_room c.args.bytes.now c.args.offset c.args.name.now _ (rest_is c.args.bytes.now c.args.offset) c.if-offset-bytes.false c.if-rest-name.true

pub returns-then-rest-name-ne0 : goal.returns-then-rest-name-ne0
returns-then-rest-name-ne0 c = λ _. other_end c.args.bytes.now c.args.offset c.args.name.now _ (rest_is c.args.bytes.now c.args.offset) c.if-offset-bytes.false c.if-rest-name-ne0.true
