use Rattle.rebuild_names.proofs.KnownLaws.{noted_at}
use Rattle.rebuild_edits.proofs.PlaceLaws.{text_placed, text_refused, text_unnoted, text_memory}
use Rattle.rebuild_edits.proofs.placing.place_noted.Goals as goal

pub returns-in-Ok-clause-placed : goal.returns-in-Ok-clause-placed
returns-in-Ok-clause-placed c =
    text_placed c.args.making.now.strings _ c.args.name.now c.args.making.now.places
    c.note_place.new.places c.in-Ok.place c.note_place.result c.in-Ok.ensures.names
    c.in-Ok.ensures.place c.in-Ok.ensures.too_large c.note_place.ensures.pushed

pub returns-in-Ok-clause-noted : goal.returns-in-Ok-clause-noted
returns-in-Ok-clause-noted c =
    noted_at c.args.at c.in-Ok.place c.args.name.now c.add.new.self c.args.making.now.known
    c.note_place.new.known c.note_place.result c.in-Ok.ensures.place c.note_place.ensures.noted

pub returns-in-Err-clause-placed : goal.returns-in-Err-clause-placed
returns-in-Err-clause-placed c =
    text_refused c.in-Err.e c.args.making.now.strings _ c.args.name.now c.args.making.now.places _
    c.false_if_large.result c.in-Err.ensures.too_large c.false_if_large.ensures.large

pub returns-in-Err-clause-noted : goal.returns-in-Err-clause-noted
returns-in-Err-clause-noted c =
    text_unnoted c.in-Err.e c.false_if_large.result c.args.at c.args.name.now _
    c.args.making.now.known c.args.making.now.known c.false_if_large.ensures.large

pub returns-in-Err-clause-err : goal.returns-in-Err-clause-err
returns-in-Err-clause-err c =
    text_memory c.in-Err.e c.false_if_large.result c.in-Err.ensures.refusals
    c.false_if_large.ensures.err
