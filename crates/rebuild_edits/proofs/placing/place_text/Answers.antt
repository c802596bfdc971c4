use Rattle.rebuild_edits.proofs.PlaceLaws.{text_placed, text_refused, text_memory}
use Rattle.rebuild_edits.proofs.placing.place_text.Goals as goal

pub returns-in-Ok-clause-placed : goal.returns-in-Ok-clause-placed
returns-in-Ok-clause-placed c =
    text_placed c.args.making.now.strings _ c.args.name.now c.args.making.now.places _
    c.in-Ok.place c.push_place.result c.in-Ok.ensures.names c.in-Ok.ensures.place
    c.in-Ok.ensures.too_large c.push_place.ensures.pushed

pub returns-in-Err-clause-placed : goal.returns-in-Err-clause-placed
returns-in-Err-clause-placed c =
    text_refused c.in-Err.e c.args.making.now.strings _ c.args.name.now c.args.making.now.places _
    c.false_if_large.result c.in-Err.ensures.too_large c.false_if_large.ensures.large

pub returns-in-Err-clause-err : goal.returns-in-Err-clause-err
returns-in-Err-clause-err c =
    text_memory c.in-Err.e c.false_if_large.result c.in-Err.ensures.refusals
    c.false_if_large.ensures.err
