use Rattle.std.proofs.Common.{◌∙◌, sym}
use Rattle.rebuild_making.proofs.PlaceLaws.{stays_behind, goes_behind}
use Rattle.rebuild_making.proofs.places.next_end.Goals as goal

pub returns-then-not-is_movable : goal.returns-then-not-is_movable
returns-then-not-is_movable g c =
    stays_behind c.args.elf.now.o c.args.s.0 c.args.end c.args.limit
    (sym c.is_movable.ensures ∙ c.if-not-is_movable.true)

pub returns-in-Some : goal.returns-in-Some
returns-in-Some g c =
    goes_behind c.args.elf.now.o c.args.s.0 c.args.end c.args.limit c.in-Some._place
    c.in-Some.after (sym c.is_movable.ensures ∙ c.if-not-is_movable.false) c.in-Some.ensures

pub returns-in-None : goal.returns-in-None
returns-in-None g c = λ may.
    c.in-None.ensures (may (sym c.is_movable.ensures ∙ c.if-not-is_movable.false))
