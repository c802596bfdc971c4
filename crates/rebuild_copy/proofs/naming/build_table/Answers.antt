use Rattle.rebuild_edits.specs.Texts.{all_texts}
use Rattle.rebuild_copy.proofs.naming.build_table.Goals as goal

pub place_all-requires-clause-strings : goal.place_all-requires-clause-strings
place_all-requires-clause-strings c = c.in-Ok.ensures.begun.0

pub place_all-requires-clause-places : goal.place_all-requires-clause-places
place_all-requires-clause-places c = c.in-Ok.ensures.begun.1

pub place_all-requires-clause-known : goal.place_all-requires-clause-known
place_all-requires-clause-known c = c.in-Ok.ensures.known

pub returns-in-Ok-place_all-clause-built : goal.returns-in-Ok-place_all-clause-built
returns-in-Ok-place_all-clause-built c = λ o p is.
    c.finish_names.ensures.built (all_texts p c.args.marks.now c.args.changes.now)
    (c.in-Ok-place_all.ensures.added o p is)
