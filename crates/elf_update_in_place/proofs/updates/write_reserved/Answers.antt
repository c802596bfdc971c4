use Rattle.std.proofs.Common.{◌∙◌, Bool, List, length, refl, sym, ap, inl, subst}
use Rattle.elf_object.specs.Object.{Object}
use Rattle.elf_update_to.specs.elf_descriptor.State.{State}
use Rattle.elf_update_to.specs.Updates.{IsPlanned}
use Rattle.elf_update_in_place.specs.Moves.Changes.{TellsChanges}
use Rattle.elf_update_in_place.specs.Rooms.{IsTaken}
use Rattle.elf_update_in_place.proofs.PhaseLaws.{flags_count}
use Rattle.elf_update_in_place.proofs.EndLaws.{wanted, with_memory, later_err}
use Rattle.elf_update_in_place.proofs.updates.write_reserved.Goals as goal

pub returns-in-Err-clause-writes : goal.returns-in-Err-clause-writes
returns-in-Err-clause-writes g c =
    wanted g.D.Source g.D.Device c.in-Err.e c.args.elf.now c.args.elf.now c.in-Err.ensures.err
    refl

pub returns-in-Err-clause-err : goal.returns-in-Err-clause-err
returns-in-Err-clause-err g c = inl c.in-Err.ensures.err

pub take_memory-requires : goal.take_memory-requires
take_memory-requires g c =
    ap length c.as_slice.ensures ∙ flags_count c.args.elf.now.o _ c.requires.changes.sections

pub returns-in-Err-take_memory-clause-writes : goal.returns-in-Err-take_memory-clause-writes
returns-in-Err-take_memory-clause-writes g c =
    wanted g.D.Source g.D.Device c.in-Err-take_memory.e c.args.elf.now c.take_memory.new.elf
    c.in-Err-take_memory.ensures.err c.in-Err-take_memory.ensures.refused

pub returns-in-Err-take_memory-clause-err : goal.returns-in-Err-take_memory-clause-err
returns-in-Err-take_memory-clause-err g c = inl c.in-Err-take_memory.ensures.err

pub write_planned-requires-clause-planned : goal.write_planned-requires-clause-planned
write_planned-requires-clause-planned g c =
    subst (λ (o : Object). IsPlanned o c.args.planned.now)
    (sym (ap (λ (e : State g.row.D.Denot). e.o) c.in_default.ensures.state)) c.requires.planned

pub write_planned-requires-clause-changes : goal.write_planned-requires-clause-changes
write_planned-requires-clause-changes g c =
    subst (λ (o : Object). TellsChanges o c.args.planned.now c.args.changes.now)
    (sym (ap (λ (e : State g.row.D.Denot). e.o) c.in_default.ensures.state)) c.requires.changes

pub write_planned-requires-clause-taken : goal.write_planned-requires-clause-taken
write_planned-requires-clause-taken g c =
    subst (λ (l : List Bool). IsTaken g.D.Source l c.take_memory.new.elf) c.as_slice.ensures
    c.in_default.ensures.taken

pub returns-clause-writes : goal.returns-clause-writes
returns-clause-writes g c =
    with_memory g.D.Source g.D.Device c.write_planned.result c.args.elf.now
    c.take_memory.new.elf c.write_planned.new.elf c.in_default.ensures.state
    c.write_planned.ensures.writes c.write_planned.ensures.err

pub returns-clause-err : goal.returns-clause-err
returns-clause-err g c =
    later_err g.D.Source g.D.Device c.write_planned.result c.write_planned.ensures.err
