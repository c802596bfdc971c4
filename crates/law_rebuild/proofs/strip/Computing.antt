-- All words of what commands make and of the law on loaded bytes at once, for proofs by
-- computation.
use Rattle.std.specs.Prelude.{Bool, true}
use Rattle.rebuild_model.proofs.Computing.{all_words as objects_words}
use Rattle.rebuild_model.specs.Laws.{changing_fields, may_change}

-- its value says nothing: what counts is that a proof that unfolds it unfolds the others
unfoldable pub all_words : Bool
unfolding objects_words changing_fields may_change
all_words = true
