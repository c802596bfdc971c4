use Rattle.std.proofs.Common.{refl, arith}
use Rattle.elf_descriptor.proofs.Placing.{one_stored, all_stored, count_stored, rest_then}
use Rattle.elf_descriptor.proofs.Rows.{changed_from}
use Rattle.elf_descriptor.proofs.body.Body.store_headers.Goals as goal

pub loop-s-init : goal.loop-s-init
unfolding changed_from
loop-s-init c = (refl, refl)

pub store_place-requires-clause-there : goal.store_place-requires-clause-there
store_place-requires-clause-there c =
    let count = count_stored c.args.places.now c.args.h.now c.args.self.now c.loop-s.self c.loop-s.s c.loop-s.invariant.1 in
    let known = c.requires.counts.shnum in
    omega (arith, count, known)

pub store_place-requires-clause-places : goal.store_place-requires-clause-places
store_place-requires-clause-places c =
    let places = c.requires.places in
    let known = c.requires.counts.shnum in
    omega (arith, places, known)

pub loop-s-preserved : goal.loop-s-preserved
loop-s-preserved c =
    let known = c.requires.counts.shnum in (
      rest_then c.args.self.now c.loop-s.self c.store_place.new.self c.loop-s.invariant.0 c.store_place.ensures.rest,
      one_stored c.args.places.now c.args.h.now c.args.self.now c.loop-s.self c.store_place.new.self c.loop-s.s (omega (arith, known)) c.loop-s.invariant.1 c.store_place.ensures.sections,
    )

pub returns : goal.returns
returns c =
    let known = c.requires.counts.shnum in
    all_stored c.args.places.now c.args.h.now c.args.self.now c.loop-s.self c.loop-s.s (omega (arith, known, c.loop-s-test.false)) c.loop-s.invariant.0 c.loop-s.invariant.1
