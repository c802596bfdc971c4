use Rattle.std.proofs.Common.{ap, sym, ◌∙◌}
use Rattle.elf_object.specs.Object.{occupies_file}
use Rattle.rebuild_edits.proofs.edits.FaultLaws.{fault_unread}
use Rattle.rebuild_copy.proofs.UpdateLaws.{no_bytes, other_long, none_faulted}
use Rattle.rebuild_copy.proofs.updating.update_fault.Goals as goal

pub returns-then-not-occupies_file-clause-fault : goal.returns-then-not-occupies_file-clause-fault
returns-then-not-occupies_file-clause-fault c =
    no_bytes c.args.x.now c.args.s c.args.change.now.name c.args.change.now.bytes
    c.fault_no_bytes.result
    (ap occupies_file (sym c.header_of.ensures) ∙ sym c.occupies_file.ensures
    ∙ c.if-not-occupies_file.true) c.fault_no_bytes.ensures

pub returns-then-not-occupies_file-clause-unread : goal.returns-then-not-occupies_file-clause-unread
returns-then-not-occupies_file-clause-unread c =
    fault_unread (Unit {0}) _ c.fault_no_bytes.result c.fault_no_bytes.ensures

pub returns-then-changes_length-clause-fault : goal.returns-then-changes_length-clause-fault
returns-then-changes_length-clause-fault c =
    other_long c.args.x.now c.args.s c.args.change.now.name c.args.change.now.bytes
    c.fault_allocated.result
    (ap occupies_file (sym c.header_of.ensures) ∙ sym c.occupies_file.ensures
    ∙ c.if-not-occupies_file.false) (sym c.changes_length.ensures ∙ c.if-changes_length.true)
    c.fault_allocated.ensures

pub returns-then-changes_length-clause-unread : goal.returns-then-changes_length-clause-unread
returns-then-changes_length-clause-unread c =
    fault_unread (Unit {0}) _ c.fault_allocated.result c.fault_allocated.ensures

pub returns-clause-fault : goal.returns-clause-fault
returns-clause-fault c =
    none_faulted c.args.x.now c.args.s c.args.change.now.name c.args.change.now.bytes
    (ap occupies_file (sym c.header_of.ensures) ∙ sym c.occupies_file.ensures
    ∙ c.if-not-occupies_file.false) (sym c.changes_length.ensures ∙ c.if-changes_length.false)
