use Rattle.std.proofs.Common.{sym, ◌∙◌}
use Rattle.rebuild_edits.proofs.edits.FaultLaws.{fault_unread}
use Rattle.rebuild_copy.proofs.UpdateLaws.{fixed_fault, flags_allowed}
use Rattle.rebuild_copy.proofs.flags.flags_fault.Goals as goal

pub returns-then-changes_loading-clause-fault : goal.returns-then-changes_loading-clause-fault
returns-then-changes_loading-clause-fault c =
    fixed_fault c.args.x.now c.args.s c.args.change.now.name c.args.change.now.bits
    c.fault_fixed.result (sym c.changes_loading.ensures ∙ c.if-changes_loading.true)
    c.fault_fixed.ensures

pub returns-then-changes_loading-clause-unread : goal.returns-then-changes_loading-clause-unread
returns-then-changes_loading-clause-unread c =
    fault_unread (Unit {0}) _ c.fault_fixed.result c.fault_fixed.ensures

pub returns-clause-fault : goal.returns-clause-fault
returns-clause-fault c =
    flags_allowed c.args.x.now c.args.s c.args.change.now.name c.args.change.now.bits
    (sym c.changes_loading.ensures ∙ c.if-changes_loading.false)
