use Rattle.std.proofs.Common.{◌∙◌, ap, inl}
use Rattle.elf_update_to.specs.elf_descriptor.State.{State}
use Rattle.elf_update_in_place.proofs.WriteLaws.{begins, written, written_err}
use Rattle.elf_update_in_place.proofs.updates.write_planned.Goals as goal

pub returns-in-Err-clause-writes : goal.returns-in-Err-clause-writes
returns-in-Err-clause-writes g c = c.in-Err.ensures.unread

pub returns-in-Err-clause-err : goal.returns-in-Err-clause-err
returns-in-Err-clause-err g c = inl c.in-Err.ensures.err

pub write_changes-requires-clause-begun : goal.write_changes-requires-clause-begun
write_changes-requires-clause-begun g c =
    begins g.D.Source g.D.Device c.args.elf.now c.prepare_writes.new.elf c.args.planned.now
    c.args.changes.now c.args.changes.now.sections c.as_slice.result.now c.requires.planned
    c.requires.changes c.as_slice.ensures c.requires.taken c.dirty-sound.ensures.sound
    c.in_default.ensures.prepared

pub returns-clause-writes : goal.returns-clause-writes
returns-clause-writes g c =
    written g.D.Source g.D.Device g.met.D.Device.rest_begins c.write_changes.result
    c.args.elf.now c.prepare_writes.new.elf c.write_changes.new.elf
    (ap (λ (e : State g.row.D.Denot). e.ready) c.in_default.ensures.prepared.rest
    ∙ c.requires.taken.ready)
    c.in_default.ensures.prepared
    (c.write_changes.ensures
    (begins g.D.Source g.D.Device c.args.elf.now c.prepare_writes.new.elf c.args.planned.now
    c.args.changes.now c.args.changes.now.sections c.as_slice.result.now c.requires.planned
    c.requires.changes c.as_slice.ensures c.requires.taken c.dirty-sound.ensures.sound
    c.in_default.ensures.prepared))

pub returns-clause-err : goal.returns-clause-err
returns-clause-err g c =
    written_err g.D.Source g.D.Device c.write_changes.result
    (c.write_changes.ensures
    (begins g.D.Source g.D.Device c.args.elf.now c.prepare_writes.new.elf c.args.planned.now
    c.args.changes.now c.args.changes.now.sections c.as_slice.result.now c.requires.planned
    c.requires.changes c.as_slice.ensures c.requires.taken c.dirty-sound.ensures.sound
    c.in_default.ensures.prepared)).err
