use Rattle.std.proofs.Common.{Err, sym, ap, subst, arith}
use Rattle.std.specs.Prelude.{IsTrue}
use Rattle.elf_update_to.specs.elf_descriptor.State.{State}
use Rattle.elf_update_to.specs.elf_descriptor.Cuts.{MaySize}
use Rattle.elf_update_to.proofs.UpdateLaws.{planned_end}
use Rattle.elf_update_in_place.proofs.writes.BegunLaws.{begun_size}
use Rattle.elf_update_in_place.proofs.writes.OverLaws.{size_on}
use Rattle.elf_update_in_place.proofs.writes.StepLaws.{writes_of, not_written, walked_cut}
use Rattle.elf_update_in_place.proofs.writes.changes.write_shorter.Goals as goal

pub write_over-requires-clause-fits : goal.write_over-requires-clause-fits
write_over-requires-clause-fits g c =
    let most = c.requires.begun.base.long in
    omega (arith, most, c.requires.fits)

pub returns-in-Err : goal.returns-in-Err
returns-in-Err g c = λ b.
    let end = planned_end b.was c.args.planned.now b.planned in
    writes_of g.D.Source g.D.Device g.met.D.Source.sized c.args.planned.now c.args.changed.now
    c.args.elf.now b (Err c.in-Err.e) c.write_over.new.elf
    (not_written g.D.Source g.D.Device g.met.D.Source.sized c.args.planned.now c.args.changed.now
    c.args.elf.now b c.args.old_end (omega (arith, c.requires.ends)) c.in-Err.e c.write_over.new.elf
    (omega (arith, end, c.requires.fits)) (c.in-Err.ensures b))

pub size_base-requires-clause-ready : goal.size_base-requires-clause-ready
size_base-requires-clause-ready g c =
    let puts = c.in_default.ensures c.requires.begun in
    subst IsTrue (sym (ap (λ (q : State g.row.D.Denot). q.ready) puts.change.state)) c.requires.begun.ready

pub size_base-requires-clause-may : goal.size_base-requires-clause-may
size_base-requires-clause-may g c =
    let b = c.requires.begun in
    let end = planned_end b.was c.args.planned.now b.planned in
    let puts = c.in_default.ensures c.requires.begun in
    subst (MaySize c.write_over.new.elf) (sym end)
    (size_on c.args.elf.now c.write_over.new.elf _ puts.change.state puts.change.long
    (begun_size g.D.Source c.args.planned.now c.args.changed.now c.args.elf.now c.requires.begun
    c.dirty-object.ensures.sound.object
    (omega (arith, end, c.requires.fits, c.dirty-object.ensures.sound.object.base_length))))

pub returns : goal.returns
returns g c = λ b.
    let end = planned_end b.was c.args.planned.now b.planned in
    writes_of g.D.Source g.D.Device g.met.D.Source.sized c.args.planned.now c.args.changed.now
    c.args.elf.now b c.size_base.result c.size_base.new.self
    (walked_cut g.D.Source g.D.Device g.met.D.Source.sized c.args.planned.now c.args.changed.now
    c.args.elf.now b c.args.old_end (omega (arith, c.requires.ends)) c.size_base.result
    c.write_over.new.elf c.size_base.new.self c.args.planned.now.places.end end (omega (arith, end, c.requires.fits))
    (c.in_default.ensures b) c.size_base.ensures.cuts c.size_base.ensures.ok c.size_base.ensures.unfinished
    c.size_base.ensures.uses c.size_base.ensures.err)
