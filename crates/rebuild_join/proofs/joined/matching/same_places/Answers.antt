use Rattle.std.proofs.Common.{◌≡◌, true, false, refl, arith}
use Rattle.rebuild_join.proofs.joined.LoadedLaws.{number_there}
use Rattle.rebuild_join.proofs.joined.MatchLaws.{alike, lengths_differ, rest_more, rest_differs, rest_none, places_are, number_at_is}
use Rattle.rebuild_join.proofs.joined.matching.same_places.Goals as goal

pub returns-then-loaded-others : goal.returns-then-loaded-others
returns-then-loaded-others g c =
    let a = c.args.stripped.now.o in
    let b = c.args.debug.now.o in
    places_are a b c.args.loaded.now c.args.others.now false c.requires.loaded c.requires.others
    (lengths_differ (alike a b) c.args.loaded.now c.args.others.now c.if-loaded-others.true)

pub loop-i-init : goal.loop-i-init
loop-i-init g c = refl

pub listed_number-requires : goal.listed_number-requires
listed_number-requires g c = omega (arith, c.loop-i-test.true)

pub listed_number-requires-in-loop-i : goal.listed_number-requires-in-loop-i
listed_number-requires-in-loop-i g c =
    omega (arith, c.if-loaded-others.false, c.loop-i-test.true)

pub same_place-requires-clause-stripped : goal.same_place-requires-clause-stripped
same_place-requires-clause-stripped g c =
    number_there c.args.stripped.now.o c.args.loaded.now c.loop-i.i c.listed_number.result
    c.requires.loaded c.listed_number.ensures

pub same_place-requires-clause-debug : goal.same_place-requires-clause-debug
same_place-requires-clause-debug g c =
    number_there c.args.debug.now.o c.args.others.now c.loop-i.i c.listed_number-in-loop-i.result
    c.requires.others c.listed_number-in-loop-i.ensures

pub loop-i-preserved : goal.loop-i-preserved
loop-i-preserved g c =
    let yes : c.same_place.result ≡ true = cc in
    rest_more (alike c.args.stripped.now.o c.args.debug.now.o) c.args.loaded.now
    c.args.others.now c.loop-i.i c.listed_number.result c.listed_number-in-loop-i.result
    c.same_place.result (omega (arith, c.loop-i-test.true))
    (omega (arith, c.if-loaded-others.false, c.loop-i-test.true))
    (number_at_is c.args.loaded.now c.loop-i.i c.listed_number.result c.listed_number.ensures)
    (number_at_is c.args.others.now c.loop-i.i c.listed_number-in-loop-i.result
    c.listed_number-in-loop-i.ensures)
    c.same_place.ensures yes c.loop-i.invariant

pub returns-then-not-same_place : goal.returns-then-not-same_place
returns-then-not-same_place g c =
    let a = c.args.stripped.now.o in
    let b = c.args.debug.now.o in
    let no : c.same_place.result ≡ false = cc in
    places_are a b c.args.loaded.now c.args.others.now false c.requires.loaded c.requires.others
    (rest_differs (alike a b) c.args.loaded.now c.args.others.now c.loop-i.i
    c.listed_number.result c.listed_number-in-loop-i.result c.same_place.result
    (omega (arith, c.loop-i-test.true))
    (omega (arith, c.if-loaded-others.false, c.loop-i-test.true))
    (number_at_is c.args.loaded.now c.loop-i.i c.listed_number.result c.listed_number.ensures)
    (number_at_is c.args.others.now c.loop-i.i c.listed_number-in-loop-i.result
    c.listed_number-in-loop-i.ensures)
    c.same_place.ensures no c.loop-i.invariant)

pub returns : goal.returns
returns g c =
    let a = c.args.stripped.now.o in
    let b = c.args.debug.now.o in
    places_are a b c.args.loaded.now c.args.others.now true c.requires.loaded c.requires.others
    (rest_none (alike a b) c.args.loaded.now c.args.others.now c.loop-i.i
    (omega (arith, c.loop-i-test.false))
    (omega (arith, c.if-loaded-others.false, c.loop-i-test.false)) c.loop-i.invariant)
