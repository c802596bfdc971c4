use Rattle.std.proofs.Common.{◌∙◌, sym, ap}
use Rattle.elf_object.specs.Object.{is_dirty}
use Rattle.elf_object.specs.Layout.{placed}
use Rattle.elf_update_to.proofs.elf_update_plan.PlacingLaws.{refused_answer}
use Rattle.elf_update_to.proofs.UpdateLaws.{wants_passed, planned_answer}
use Rattle.elf_update_in_place.proofs.moves.TornLaws.{torn_placed, torn_is_dirty}
use Rattle.elf_update_in_place.proofs.EndLaws.{failed_answer, refused, failed, may_settle, ended}
use Rattle.elf_update_in_place.proofs.updates.update_dirty.Goals as goal

pub returns-in-Err-clause-answer : goal.returns-in-Err-clause-answer
returns-in-Err-clause-answer g c =
    refused_answer c.args.elf.now.o c.in-Err.e c.in-Err.ensures.err

pub returns-in-Err-clause-updates : goal.returns-in-Err-clause-updates
returns-in-Err-clause-updates g c =
    refused g.D.Source g.D.Device c.in-Err.e c.args.elf.now c.in-Err.ensures.err

pub returns-in-Err-changes_of-clause-answer : goal.returns-in-Err-changes_of-clause-answer
returns-in-Err-changes_of-clause-answer g c =
    refused_answer c.args.elf.now.o c.in-Err-changes_of.e
    (wants_passed c.args.elf.now.o c.in-Err-changes_of.e c.in-Ok.ensures.ok.ready.passed
    c.in-Err-changes_of.ensures.err)

pub returns-in-Err-changes_of-clause-updates : goal.returns-in-Err-changes_of-clause-updates
returns-in-Err-changes_of-clause-updates g c =
    refused g.D.Source g.D.Device c.in-Err-changes_of.e c.args.elf.now
    (wants_passed c.args.elf.now.o c.in-Err-changes_of.e c.in-Ok.ensures.ok.ready.passed
    c.in-Err-changes_of.ensures.err)

pub returns-in-Err-write_reserved-clause-answer : goal.returns-in-Err-write_reserved-clause-answer
returns-in-Err-write_reserved-clause-answer g c =
    failed_answer c.in-Err-write_reserved.e c.in-Ok.planned.places.end _
    (planned_answer c.args.elf.now.o c.in-Ok.planned c.in-Ok.ensures.ok)
    c.in-Err-write_reserved.ensures.err

pub returns-in-Err-write_reserved-clause-updates : goal.returns-in-Err-write_reserved-clause-updates
returns-in-Err-write_reserved-clause-updates g c =
    failed g.D.Source g.D.Device c.in-Err-write_reserved.e c.args.elf.now
    c.write_reserved.new.elf c.in-Err-write_reserved.ensures.writes

pub settle-requires-clause-ready : goal.settle-requires-clause-ready
settle-requires-clause-ready g c = c.in_default.ensures.writes.kept.ready

pub settle-requires-clause-dirty : goal.settle-requires-clause-dirty
settle-requires-clause-dirty g c =
    ap is_dirty c.in_default.ensures.writes.object
    ∙ torn_is_dirty c.args.elf.now.o c.write_reserved.new.elf.o.base c.in-Ok.ensures.ok.ready.dirty

pub settle-requires-clause-passed : goal.settle-requires-clause-passed
settle-requires-clause-passed g c =
    (may_settle g.D.Source g.D.Device c.args.elf.now c.write_reserved.new.elf
    c.in-Ok.ensures.ok.ready c.in_default.ensures.writes).passed

pub settle-requires-clause-stored : goal.settle-requires-clause-stored
settle-requires-clause-stored g c =
    ap placed c.in_default.ensures.writes.object
    ∙ torn_placed c.args.elf.now.o c.write_reserved.new.elf.o.base c.in-Ok.ensures.ok.ready.dirty
    ∙ sym c.in_default.ensures.writes.object

pub settle-requires-clause-long : goal.settle-requires-clause-long
settle-requires-clause-long g c =
    (may_settle g.D.Source g.D.Device c.args.elf.now c.write_reserved.new.elf
    c.in-Ok.ensures.ok.ready c.in_default.ensures.writes).long

pub settle-requires-clause-holds : goal.settle-requires-clause-holds
settle-requires-clause-holds g c =
    (may_settle g.D.Source g.D.Device c.args.elf.now c.write_reserved.new.elf
    c.in-Ok.ensures.ok.ready c.in_default.ensures.writes).holds

pub returns-clause-answer : goal.returns-clause-answer
returns-clause-answer g c = planned_answer c.args.elf.now.o c.in-Ok.planned c.in-Ok.ensures.ok

pub returns-clause-updates : goal.returns-clause-updates
returns-clause-updates g c =
    ended g.D.Source g.D.Device c.in-Ok.planned.places.end c.args.elf.now
    c.write_reserved.new.elf c.settle.new.self c.in-Ok.ensures.ok.ready
    c.in_default.ensures.writes c.settle.ensures
