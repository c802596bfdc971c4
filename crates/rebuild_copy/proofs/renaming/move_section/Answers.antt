use Rattle.std.proofs.Common.{◌∙◌, ap}
use Rattle.rebuild_changes.specs.declared.faults.CopyFault.TheVariants as faults
use Rattle.rebuild_edits.proofs.edits.RenameLaws.{set_long}
use Rattle.rebuild_copy.proofs.RenameLaws.{moved_both}
use Rattle.rebuild_copy.proofs.renaming.move_section.Goals as goal

pub returns-in-Ok-clause-sought : goal.returns-in-Ok-clause-sought
returns-in-Ok-clause-sought c = c.put.ensures.sought ∙ c.remove.ensures.sought

pub returns-in-Ok-clause-long : goal.returns-in-Ok-clause-long
returns-in-Ok-clause-long c =
    set_long c.args.marks.now c.set_mark.new.marks c.args.s c.args.mark c.set_mark.ensures

pub returns-in-Ok-clause-moved : goal.returns-in-Ok-clause-moved
returns-in-Ok-clause-moved c =
    moved_both c.args.index.now c.remove.new.self c.put.new.self c.args.change.now.name
    c.args.change.now.bytes _ _ c.args.s c.as_slice.ensures c.as_slice-2.ensures
    c.remove.ensures.sought c.remove.ensures.removed c.in-Ok.ensures.ok

pub returns-in-Err-clause-sought : goal.returns-in-Err-clause-sought
returns-in-Err-clause-sought c = c.put.ensures.sought ∙ c.remove.ensures.sought

pub returns-in-Err-clause-err : goal.returns-in-Err-clause-err
returns-in-Err-clause-err c = ap faults.Strip c.in-Err.ensures.err
