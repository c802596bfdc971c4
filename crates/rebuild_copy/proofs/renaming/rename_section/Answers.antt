use Rattle.std.proofs.Common.{ℕ}
use Rattle.rebuild_edits.proofs.edits.FaultLaws.{unread_on}
use Rattle.rebuild_copy.proofs.RenameLaws.{renamed_to, renamed_not, want_unread}
use Rattle.rebuild_copy.proofs.renaming.rename_section.Goals as goal

pub returns-in-Ok-clause-renames : goal.returns-in-Ok-clause-renames
returns-in-Ok-clause-renames c = λ p renames long is index.
    renamed_to p renames c.args.change.now c.args.marks.now c.move_section.new.marks c.in-Ok.s
    c.args.mark c.args.index.now c.move_section.new.index c.move_section.result long is index
    (c.in-Ok.ensures.found _ index) c.move_section.ensures.sought c.move_section.ensures.marked
    c.move_section.ensures.moved c.move_section.ensures.err

pub returns-in-Ok-clause-unread : goal.returns-in-Ok-clause-unread
returns-in-Ok-clause-unread c =
    want_unread c.move_section.result c.move_section.ensures.err

pub returns-in-Err-clause-renames : goal.returns-in-Err-clause-renames
returns-in-Err-clause-renames c = λ p renames long is index.
    renamed_not p renames c.args.change.now c.args.marks.now c.in-Err.fault c.args.index.now
    (c.in-Err.ensures.found _ index)

pub returns-in-Err-clause-unread : goal.returns-in-Err-clause-unread
returns-in-Err-clause-unread c = unread_on ℕ (Unit {0}) c.in-Err.fault c.in-Err.ensures.unread
