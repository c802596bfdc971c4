-- Words that a proof opens together. The value of the one that stands for them says nothing: what
-- counts is that a proof that unfolds it unfolds the others.
use Rattle.std.specs.Prelude.{Bool, true}
use Rattle.gelf_view.specs.Calls.{note_answer, verdaux_answer}
use Rattle.gelf_view.specs.Notes.{note_at, note_align}
use Rattle.gelf_view.specs.Records.{record_at}
use Rattle.gelf_view.specs.Versions.{verdaux_at, verdaux_of}

-- notes and version records, and the calls that tell them
unfoldable pub calls : Bool
unfolding note_answer verdaux_answer note_at note_align record_at verdaux_at verdaux_of
calls = true
