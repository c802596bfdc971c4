use Rattle.std.proofs.Common.{◌≡◌, length}
use Rattle.std.proofs.Math.ListN.{replicate}
use Rattle.elf_object.specs.Object.{Object}
use Rattle.rebuild_model.specs.Copied.{names_in}
use Rattle.rebuild_copy.specs.Indexes.{IsIndexOf}
use Rattle.rebuild_copy.proofs.RenameLaws.{FilledTo}
use Rattle.rebuild_copy.proofs.renaming.fill_marks.Given as goal

abbrev pub invariant-loop-i : goal.invariant-loop-i
invariant-loop-i l =
    (l.index.sought ≡ l.initial.index.sought)
    × ((p : Object) → l.initial.marks ≡ replicate (length p.sections) 0
    → IsIndexOf l.initial.index (names_in p) → FilledTo l.renames l.i p l.marks l.index)
