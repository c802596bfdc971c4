use Rattle.elf_object.specs.Object.{Object}
use Rattle.rebuild_model.specs.Copied.{with_added}
use Rattle.rebuild_changes.specs.Stated.{bytes_pair}
use Rattle.rebuild_copy.specs.Rows.{Origin, IsContents}
use Rattle.rebuild_copy.specs.Steps.{ReadsNoMore}
use Rattle.rebuild_copy.proofs.TurnLaws.{TurnedTo}
use Rattle.rebuild_copy.proofs.adding.add_sections.Given as goal

abbrev pub invariant-loop-change : goal.invariant-loop-change
invariant-loop-change l =
    ((o : Origin) (p : Object) → IsContents o p l.initial.x
    → TurnedTo bytes_pair with_added l.changes l.change-index o p l.x)
    × ReadsNoMore l.initial.x l.x
