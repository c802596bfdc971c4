use Rattle.tool_objects.proofs.at_hand.ItemPlaces.{place_there, place_past, place_inside, place_len}
use Rattle.tool_objects.proofs.at_hand.items.bytes_of_item.Goals as goal

pub returns-then-bytes-at-clause-past : goal.returns-then-bytes-at-clause-past
returns-then-bytes-at-clause-past c = λ none.
    place_past c.args.bytes.now c.args.size c.args.i c.in_ok-at.at c.in_ok-at.ensures.1
    c.requires.some c.if-bytes-at.true

pub returns-clause-there : goal.returns-clause-there
returns-clause-there c =
    place_there c.args.bytes.now c.args.size c.args.i c.in_ok-at.at c.in_ok-at.ensures.1

pub returns-clause-inside : goal.returns-clause-inside
returns-clause-inside c =
    place_inside c.args.bytes.now c.args.size c.args.i c.in_ok-at.at c.in_ok-at.ensures.1
    c.requires.some c.requires.whole c.if-bytes-at.false

pub returns-clause-len : goal.returns-clause-len
returns-clause-len c =
    place_len c.args.bytes.now c.args.size c.args.i c.in_ok-at.at c.in_ok-at.ensures.1
    c.requires.some c.requires.whole c.if-bytes-at.false
