use Rattle.std.proofs.Common.{false, ◌-◌}
use Rattle.elf_object.specs.Answers.{count_at}
use Rattle.tool_objects.specs.Steps.{ElfUnderWay}
use Rattle.readelf_chains.specs.Notes.{notes_from}
use Rattle.readelf_chains.proofs.notes.show_each_note.Given as goal

abbrev pub invariant-notes : goal.invariant-notes
invariant-notes g l =
    ElfUnderWay g.S.Source g.O.Sink g.E.Sink false l.initial.elf l.elf l.initial.outputs l.outputs
    (λ o. notes_from l.name o l.s.0 0) (λ o. notes_from l.name o l.s.0 l.at)

abbrev pub decreases-notes : goal.decreases-notes
decreases-notes g l = count_at l.initial.elf.o l.s.0 0 - l.at
