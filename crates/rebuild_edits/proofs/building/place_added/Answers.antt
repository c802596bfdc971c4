use Rattle.std.proofs.Common.{◌≡◌, ◌≢◌, ◌+◌, ℕ, List, All, length, refl, sym, subst, arith}
use Rattle.std.proofs.lemmas.Option.{slice_get_read}
use Rattle.rebuild_edits.specs.Texts.{AreTextsAdded}
use Rattle.rebuild_edits.proofs.PlaceLaws.{plain_added}
use Rattle.rebuild_edits.proofs.TextLaws.{added_more, added_large, first_texts_added}
use Rattle.rebuild_edits.proofs.building.place_added.Goals as goal

pub place_text-requires : goal.place_text-requires
place_text-requires c =
    subst (λ (l : List ℕ). All (λ b. b ≢ 0) l) (sym c.as_slice.ensures)
    (plain_added c.args.adds.now c.loop-change.change-index c.change-item.result c.requires
    (slice_get_read c.args.adds.now (length c.args.adds.now) c.loop-change.change-index
    c.change-item.result refl c.loop-change-test.true c.change-item.is))

pub loop-change-init : goal.loop-change-init
loop-change-init c = λ texts n behind are. first_texts_added texts _ _ n are

pub returns-then-not-fits-clause-added : goal.returns-then-not-fits-clause-added
returns-then-not-fits-clause-added c = λ texts n behind are.
    added_large texts n c.args.adds.now behind c.loop-change.making.strings
    c.place_text.new.making.strings c.loop-change.making.places c.place_text.new.making.places
    c.loop-change.change-index c.change-item.result c.as_slice.result.now c.in-Ok.fits
    c.loop-change-test.true c.change-item.is c.as_slice.ensures
    (c.loop-change.invariant texts n behind are) c.if-not-fits.true c.in-Ok.ensures.placed

pub loop-change-preserved : goal.loop-change-preserved
loop-change-preserved c = λ texts n behind are.
    added_more texts n c.args.adds.now behind c.loop-change.making.strings
    c.place_text.new.making.strings c.loop-change.making.places c.place_text.new.making.places
    c.loop-change.change-index c.change-item.result c.as_slice.result.now c.in-Ok.fits
    c.loop-change-test.true c.change-item.is c.as_slice.ensures
    (c.loop-change.invariant texts n behind are) c.if-not-fits.false c.in-Ok.ensures.placed

pub returns-clause-added : goal.returns-clause-added
returns-clause-added c = λ texts n behind are.
    subst (λ (i : ℕ). AreTextsAdded texts c.loop-change.making.strings c.loop-change.making.places
    (n + i))
    (let within = c.loop-change.auto.change-index-end in
    let all : c.loop-change.change-index ≡ length c.args.adds.now =
    omega (arith, within, c.loop-change-test.false) in all)
    (c.loop-change.invariant texts n behind are)
