use Rattle.std.proofs.Common.{ℕ, List}
use Rattle.elf_object.specs.Object.{Object}
use Rattle.rebuild_changes.specs.declared.changes.NameBytes.{NameBytes}
use Rattle.rebuild_edits.specs.Edits.Names.{names_now}
use Rattle.rebuild_copy.specs.Rows.{Origin, IsContents}
use Rattle.rebuild_copy.specs.Steps.{ReadsNoMore}
use Rattle.rebuild_copy.specs.Indexes.{IsIndexOf}
use Rattle.rebuild_copy.proofs.TurnLaws.{FlaggedTo}
use Rattle.rebuild_copy.proofs.flags.flag_sections.Given as goal

abbrev pub invariant-loop-change : goal.invariant-loop-change
invariant-loop-change l =
    ((marks : List ℕ) (renames : List NameBytes) (o : Origin) (p : Object)
    → IsContents o p l.initial.x → IsIndexOf l.index (names_now p marks renames)
    → FlaggedTo marks renames l.changes l.change-index o p l.x)
    × ReadsNoMore l.initial.x l.x
