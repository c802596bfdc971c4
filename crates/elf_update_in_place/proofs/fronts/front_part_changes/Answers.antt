use Rattle.std.proofs.Common.{true, false}
use Rattle.law_object.proofs.PlacedLaws.{update_passes}
use Rattle.elf_update_in_place.proofs.FrontLaws.{whole_is, planned_fit, part_marked, object_marked, part_differs}
use Rattle.elf_update_in_place.proofs.fronts.front_part_changes.Goals as goal

pub front_differs-requires-clause-contents : goal.front_differs-requires-clause-contents
front_differs-requires-clause-contents g c =
    let ready = c.requires.planned.ready in
    (update_passes c.args.elf.now.o ready.dirty ready.passed).0

pub front_differs-requires-clause-places : goal.front_differs-requires-clause-places
front_differs-requires-clause-places g c =
    planned_fit c.args.elf.now.o c.args.planned.now.places c.requires.planned.ready
    c.requires.planned.places

pub returns-then-marked : goal.returns-then-marked
returns-then-marked g c =
    part_marked c.args.elf.now.o c.args.part c.args.marked c.if-marked.true

pub returns-then-is_marked : goal.returns-then-is_marked
returns-then-is_marked g c =
    object_marked c.args.elf.now.o c.args.part c.args.marked
    (whole_is c.args.elf.now.o c.is_marked.result true c.is_marked.ensures c.if-is_marked.true)

pub returns : goal.returns
returns g c =
    part_differs c.args.elf.now.o c.args.part c.args.marked c.front_differs.result
    c.args.planned.now.places
    (whole_is c.args.elf.now.o c.is_marked.result false c.is_marked.ensures c.if-is_marked.false)
    c.if-marked.false c.requires.planned.places c.front_differs.ensures
