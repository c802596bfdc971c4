use Rattle.gelf_view.proofs.string_calls.fetch_strings.Goals as goal

pub returns-in-Ok-clause-hand : goal.returns-in-Ok-clause-hand
returns-in-Ok-clause-hand g c = rw c.note_end.ensures c.in-Ok.ensures.hand

pub returns-in-Ok-clause-queries : goal.returns-in-Ok-clause-queries
returns-in-Ok-clause-queries g c = rw c.note_end.ensures c.in-Ok.ensures.queries
