use Rattle.std.proofs.Common.{◌≡◌}
use Rattle.elf_object.specs.Object.{Object}
use Rattle.rebuild_model.specs.Copied.{names_in}
use Rattle.rebuild_copy.specs.Rows.{Origin, IsContents}
use Rattle.rebuild_copy.specs.Steps.{ReadsNoMore}
use Rattle.rebuild_copy.specs.Indexes.{IsIndexOf}
use Rattle.rebuild_copy.proofs.BytesLaws.{AllUpdatedTo}
use Rattle.rebuild_copy.proofs.updating.update_all.Given as goal

abbrev pub invariant-loop-change : goal.invariant-loop-change
invariant-loop-change l =
    (l.index.sought ≡ l.initial.index.sought)
    × ((o : Origin) (p : Object) → IsContents o p l.initial.x
    → IsIndexOf l.initial.index (names_in p)
    → AllUpdatedTo l.changes l.change-index o p l.x l.index)
    × ReadsNoMore l.initial.x l.x
