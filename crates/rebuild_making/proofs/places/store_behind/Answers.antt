use Rattle.std.proofs.Common.{◌∙◌, sym}
use Rattle.rebuild_making.proofs.PlaceLaws.{stays_behind, goes_behind, place_stays, place_goes, found_fits}
use Rattle.rebuild_making.proofs.places.store_behind.Goals as goal

pub returns-then-not-is_movable-clause-end : goal.returns-then-not-is_movable-clause-end
returns-then-not-is_movable-clause-end g c =
    (stays_behind c.args.elf.now.o c.args.s.0 c.args.end c.args.limit
    (sym c.is_movable.ensures ∙ c.if-not-is_movable.true)).1

pub returns-then-not-is_movable-clause-state : goal.returns-then-not-is_movable-clause-state
returns-then-not-is_movable-clause-state g c =
    place_stays c.args.elf.now c.args.s.0 c.args.end
    (sym c.is_movable.ensures ∙ c.if-not-is_movable.true)

pub store_place-requires-clause-fits : goal.store_place-requires-clause-fits
store_place-requires-clause-fits g c =
    found_fits c.args.elf.now.o c.args.s.0 c.args.end c.args.limit c.in-Some.place c.in-Some.after
    c.args.elf.now.o.header.class c.requires.limit c.in-Some.ensures

pub returns-clause-end : goal.returns-clause-end
returns-clause-end g c =
    (goes_behind c.args.elf.now.o c.args.s.0 c.args.end c.args.limit c.in-Some.place
    c.in-Some.after (sym c.is_movable.ensures ∙ c.if-not-is_movable.false) c.in-Some.ensures).1

pub returns-clause-state : goal.returns-clause-state
returns-clause-state g c =
    place_goes c.args.elf.now c.store_place.new.elf c.args.s.0 c.args.end c.args.limit
    c.in-Some.place c.in-Some.after (sym c.is_movable.ensures ∙ c.if-not-is_movable.false)
    c.in-Some.ensures c.store_place.ensures

pub unreachable-requires : goal.unreachable-requires
unreachable-requires g c =
    c.in-None.ensures (c.requires.fits (sym c.is_movable.ensures ∙ c.if-not-is_movable.false))
