use Rattle.std.proofs.Common.{ℕ, List, ap, ◌∙◌}
use Rattle.std.proofs.Math.ListN.{replicate}
use Rattle.rebuild_edits.proofs.edits.FaultLaws.{memory_fault_unread, unread_on}
use Rattle.rebuild_edits.proofs.edits.RenameLaws.{marks_given, marks_end, marks_wanted}
use Rattle.rebuild_copy.specs.Steps.{known}
use Rattle.rebuild_copy.proofs.NameLaws.{count_is}
use Rattle.rebuild_copy.proofs.renaming.rename_sections.Goals as goal

pub returns-in-Err-clause-renames : goal.returns-in-Err-clause-renames
returns-in-Err-clause-renames c = λ o p is.
    marks_wanted c.args.renames.now (known p) _ c.in-Err.e c.in-Err.ensures.err

pub returns-in-Err-clause-unread : goal.returns-in-Err-clause-unread
returns-in-Err-clause-unread c = memory_fault_unread (List ℕ) c.in-Err.e c.in-Err.ensures.err

pub returns-in-Ok-fill_marks-clause-renames : goal.returns-in-Ok-fill_marks-clause-renames
returns-in-Ok-fill_marks-clause-renames c = λ o p is.
    marks_given c.args.renames.now (known p) (known p) c.fill_marks.new.marks _
    (c.in-Ok-fill_marks.ensures.renames p
    (c.in-Ok.ensures.ok ∙ ap (λ (n : ℕ). replicate n 0) (count_is o p c.args.x.now is))
    (c.requires.index o p is)).finds

pub returns-in-Ok-fill_marks-clause-index : goal.returns-in-Ok-fill_marks-clause-index
returns-in-Ok-fill_marks-clause-index c = λ o p is.
    (c.in-Ok-fill_marks.ensures.renames p
    (c.in-Ok.ensures.ok ∙ ap (λ (n : ℕ). replicate n 0) (count_is o p c.args.x.now is))
    (c.requires.index o p is)).indexed

pub returns-in-Err-fill_marks-clause-renames : goal.returns-in-Err-fill_marks-clause-renames
returns-in-Err-fill_marks-clause-renames c = λ o p is.
    marks_end c.args.renames.now (known p) (known p) c.fill_marks.new.marks _
    c.in-Err-fill_marks.fault
    (c.in-Err-fill_marks.ensures.renames p
    (c.in-Ok.ensures.ok ∙ ap (λ (n : ℕ). replicate n 0) (count_is o p c.args.x.now is))
    (c.requires.index o p is)).finds

pub returns-in-Err-fill_marks-clause-unread : goal.returns-in-Err-fill_marks-clause-unread
returns-in-Err-fill_marks-clause-unread c =
    unread_on (Unit {0}) (List ℕ) c.in-Err-fill_marks.fault c.in-Err-fill_marks.ensures.unread
