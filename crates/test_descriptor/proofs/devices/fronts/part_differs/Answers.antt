use Rattle.std.proofs.Common.{sym, subst}
use Rattle.elf_layout.specs.declared.parts.Places.{Places}
use Rattle.law_object.proofs.PlacedLaws.{update_passes}
use Rattle.elf_descriptor.specs.Places.{PartsFitAt}
use Rattle.elf_descriptor.proofs.FittingPlaces.{updated_places}
use Rattle.test_descriptor.proofs.devices.fronts.part_differs.Goals as goal

pub front_differs-requires-clause-contents : goal.front_differs-requires-clause-contents
front_differs-requires-clause-contents g c =
    (update_passes c.args.elf.now.o c.requires.dirty c.requires.placed.passed).0

pub front_differs-requires-clause-places : goal.front_differs-requires-clause-places
front_differs-requires-clause-places g c =
    let o = c.args.elf.now.o in
    subst (λ (p : Places). PartsFitAt o p) (sym c.requires.placed.places)
    (updated_places o c.dirty-object.ensures.sound.object c.requires.dirty
    c.requires.placed.passed)
