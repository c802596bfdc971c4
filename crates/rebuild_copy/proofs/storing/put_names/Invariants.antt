use Rattle.std.proofs.Common.{◌≡◌}
use Rattle.elf_object.specs.Object.{Object}
use Rattle.rebuild_copy.specs.Rows.{Origin, IsContents}
use Rattle.rebuild_copy.proofs.StoreLaws.{NamedBelow}
use Rattle.rebuild_copy.proofs.storing.put_names.Given as goal

abbrev pub invariant-loop-s : goal.invariant-loop-s
invariant-loop-s l =
    ((o : Origin) (p : Object) → IsContents o p l.initial.x → NamedBelow l.places o p l.s l.x)
    × (l.x.ranges ≡ l.initial.x.ranges)
