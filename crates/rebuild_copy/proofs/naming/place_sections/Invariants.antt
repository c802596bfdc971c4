use Rattle.elf_object.specs.Object.{Object}
use Rattle.rebuild_edits.specs.rebuild_names.Known.{AreHeld}
use Rattle.rebuild_copy.specs.Rows.{Origin, IsContents, held_in, held_name}
use Rattle.rebuild_copy.proofs.NamingLaws.{PlacedTo}
use Rattle.rebuild_copy.proofs.naming.place_sections.Given as goal

abbrev pub invariant-loop-s : goal.invariant-loop-s
invariant-loop-s l = record {
  placed : (o : Origin) (p : Object) → IsContents o p l.x
      → PlacedTo p l.marks l.changes l.making.strings l.making.places l.s;
  known : AreHeld (held_name (held_in l.x l.table.range)) l.making.known l.making.strings;
}
