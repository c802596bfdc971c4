use Rattle.std.proofs.Common.{◌∙◌, inl, inr, sym}
use Rattle.rebuild_model.specs.elf_object.Layout.{placed}
use Rattle.rebuild_image.specs.declared.holding.FrontRanges.{FrontRanges}
use Rattle.rebuild_image.proofs.StoredLaws.{no_unfit_header, placed_object, stored_class}
use Rattle.rebuild_image.proofs.UnreadLaws.{wanted_unread}
use Rattle.rebuild_image.proofs.streaming.hold_stored.Goals as goal

pub returns-then-not-ehdr_fits-clause-err : goal.returns-then-not-ehdr_fits-clause-err
returns-then-not-ehdr_fits-clause-err c = inr (λ o ready is are.
    no_unfit_header (placed o) c.args.x.now (placed_object o ready) is
    (sym c.ehdr_fits.ensures ∙ c.if-not-ehdr_fits.true))

pub returns-then-not-headers_fit-clause-err : goal.returns-then-not-headers_fit-clause-err
returns-then-not-headers_fit-clause-err c = inr (λ o ready is are.
    c.headers_fit.ensures.other c.if-not-headers_fit.true (placed o) (placed_object o ready) is)

pub returns-then-not-segments_fit-clause-err : goal.returns-then-not-segments_fit-clause-err
returns-then-not-segments_fit-clause-err c = inr (λ o ready is are.
    c.segments_fit.ensures.other c.if-not-segments_fit.true o ready
    (stored_class o c.args.x.now ready is) are)

pub hold_front-requires-clause-header : goal.hold_front-requires-clause-header
hold_front-requires-clause-header c = sym c.ehdr_fits.ensures ∙ c.if-not-ehdr_fits.false

pub hold_front-requires-clause-segments : goal.hold_front-requires-clause-segments
hold_front-requires-clause-segments c = c.segments_fit.ensures.fit c.if-not-segments_fit.false

pub hold_front-requires-clause-sections : goal.hold_front-requires-clause-sections
hold_front-requires-clause-sections c = c.headers_fit.ensures.fit c.if-not-headers_fit.false

pub returns-in-Err-clause-err : goal.returns-in-Err-clause-err
returns-in-Err-clause-err c = inl c.in-Err.ensures.err

pub returns-in-Err-clause-unread : goal.returns-in-Err-clause-unread
returns-in-Err-clause-unread c = wanted_unread FrontRanges c.in-Err.e c.in-Err.ensures.err
