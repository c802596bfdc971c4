use Rattle.std.proofs.Common.{◌∙◌, sym}
use Rattle.rebuild_image.proofs.PlaceLaws.{stays_placed, goes_movable, goes_placed, never_placed}
use Rattle.rebuild_image.proofs.places.place_behind.Goals as goal

pub returns-then-not-is_movable : goal.returns-then-not-is_movable
returns-then-not-is_movable c = λ o s row first limit.
    stays_placed o s c.args.end c.args.limit c.args.h.now row.header
    (sym c.is_movable.ensures ∙ c.if-not-is_movable.true)

pub returns-in-Some : goal.returns-in-Some
returns-in-Some c = λ o s row first limit.
    let moves = goes_movable o s c.args.h.now row.header
    (sym c.is_movable.ensures ∙ c.if-not-is_movable.false) in
    goes_placed o s c.args.end c.args.limit c.in-Some.place c.in-Some.after c.args.h.now row.header
    moves (c.in-Some.ensures o s row first moves limit)

pub returns-in-None : goal.returns-in-None
returns-in-None c = λ o s row first limit.
    let moves = goes_movable o s c.args.h.now row.header
    (sym c.is_movable.ensures ∙ c.if-not-is_movable.false) in
    never_placed o s c.args.end c.args.limit moves (c.in-None.ensures o s row first moves limit)
