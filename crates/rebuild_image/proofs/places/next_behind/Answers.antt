use Rattle.std.proofs.Common.{◌∙◌, sym}
use Rattle.rebuild_making.proofs.PlaceLaws.{found_above, found_bare, found_long, found_filled}
use Rattle.rebuild_image.proofs.PlaceLaws.{limit_is_small, size_told}
use Rattle.rebuild_image.proofs.places.next_behind.Goals as goal

pub returns-in_default : goal.returns-in_default
returns-in_default c = λ o s row first moves limit.
    found_above o s c.args.end c.args.limit c.args.h.now row.header moves c.in_default.ensures

pub returns-then-not-occupies_file : goal.returns-then-not-occupies_file
returns-then-not-occupies_file c = λ o s row first moves limit.
    found_bare o s c.args.end c.args.limit c.args.h.now row.header moves c.in-Some.place
    c.in-Some.ensures (sym c.occupies_file.ensures ∙ c.if-not-occupies_file.true)

pub returns-then-size-limit : goal.returns-then-size-limit
returns-then-size-limit c = λ o s row first moves limit.
    found_long o s c.args.end c.args.limit c.args.h.now row.header moves c.in-Some.place
    c.in-Some.ensures first (sym c.occupies_file.ensures ∙ c.if-not-occupies_file.false)
    c.args.size
    (size_told o s c.args.size c.args.h.now row first
    (sym c.occupies_file.ensures ∙ c.if-not-occupies_file.false) c.ranges.size.fits)
    c.if-size-limit.true

pub returns : goal.returns
returns c = λ o s row first moves limit.
    found_filled o s c.args.end c.args.limit c.args.h.now row.header moves c.in-Some.place
    c.in-Some.ensures first (sym c.occupies_file.ensures ∙ c.if-not-occupies_file.false)
    c.args.size
    (size_told o s c.args.size c.args.h.now row first
    (sym c.occupies_file.ensures ∙ c.if-not-occupies_file.false) c.ranges.size.fits)
    (limit_is_small o c.args.limit limit) c.if-size-limit.false
