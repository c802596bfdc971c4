use Rattle.std.proofs.Common.{Err, ap, ◌∙◌, arith}
use Rattle.elf_update_to.specs.elf_object.Object.{Object}
use Rattle.elf_update_to.proofs.UpdateLaws.{planned_end}
use Rattle.elf_update_in_place.proofs.writes.TornObjects.{torn_marked}
use Rattle.elf_update_in_place.proofs.writes.StepLaws.{writes_of, not_lengthened, longer_begun, walked_longer}
use Rattle.elf_update_in_place.proofs.writes.changes.write_longer.Goals as goal

pub size_base-requires-clause-ready : goal.size_base-requires-clause-ready
size_base-requires-clause-ready g c = c.requires.begun.ready

pub size_base-requires-clause-may : goal.size_base-requires-clause-may
size_base-requires-clause-may g c = record {
  marked = ap (λ (o : Object). o.marked) c.requires.begun.object
      ∙ torn_marked c.requires.begun.was c.requires.begun.was.base c.requires.begun.planned.ready.dirty;
  homes = λ i lies some past.
      let inside = lies.1 in
      absurd (omega (arith, inside, past, c.requires.grows));
}

pub returns-in-Err : goal.returns-in-Err
returns-in-Err g c = λ b.
    writes_of g.D.Source g.D.Device g.met.D.Source.sized c.args.planned.now c.args.changed.now
    c.args.elf.now b (Err c.in-Err.e) c.size_base.new.self
    (not_lengthened g.D.Source g.D.Device g.met.D.Source.sized c.args.planned.now c.args.changed.now
    c.args.elf.now b c.in-Err.e c.size_base.new.self
    c.args.planned.now.places.end (planned_end b.was c.args.planned.now b.planned)
    c.in-Err.ensures.cuts c.in-Err.ensures.uses c.in-Err.ensures.unfinished c.in-Err.ensures.err)

pub write_over-requires-clause-begun : goal.write_over-requires-clause-begun
write_over-requires-clause-begun g c =
    let b = c.requires.begun in
    longer_begun g.D.Source g.D.Device g.met.D.Source.sized c.args.planned.now c.args.changed.now
    c.args.elf.now c.requires.begun c.size_base.new.self
    c.args.planned.now.places.end (planned_end b.was c.args.planned.now b.planned) c.requires.grows
    c.in_default.ensures.cuts c.in_default.ensures.ok

pub write_over-requires-clause-fits : goal.write_over-requires-clause-fits
write_over-requires-clause-fits g c =
    let size = c.in_default.ensures.ok.len in
    omega (arith, size)

pub returns : goal.returns
returns g c = λ b.
    writes_of g.D.Source g.D.Device g.met.D.Source.sized c.args.planned.now c.args.changed.now
    c.args.elf.now b c.write_over.result c.write_over.new.elf
    (walked_longer g.D.Source g.D.Device g.met.D.Source.sized c.args.planned.now c.args.changed.now
    c.args.elf.now b c.size_base.new.self
    c.args.planned.now.places.end (planned_end b.was c.args.planned.now b.planned) c.requires.grows
    c.in_default.ensures.cuts c.in_default.ensures.ok c.args.old_end
    (omega (arith, c.requires.ends)) c.write_over.result c.write_over.new.elf
    (c.write_over.ensures (longer_begun g.D.Source g.D.Device g.met.D.Source.sized
    c.args.planned.now c.args.changed.now c.args.elf.now b
    c.size_base.new.self c.args.planned.now.places.end (planned_end b.was c.args.planned.now b.planned) c.requires.grows
    c.in_default.ensures.cuts c.in_default.ensures.ok)) c.in_default.ensures.uses)
