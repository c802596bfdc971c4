use Rattle.std.proofs.Common.{false, ◌-◌}
use Rattle.elf_object.specs.Answers.{count_at}
use Rattle.tool_objects.specs.Steps.{ElfUnderWay}
use Rattle.readelf_chains.specs.Entries.{entries_report}
use Rattle.readelf_chains.proofs.entries.show_from.Given as goal

abbrev pub invariant-entries : goal.invariant-entries
invariant-entries g l =
    let entry = g.R.ShownEntry in
    ElfUnderWay g.S.Source g.O.Sink g.E.Sink false l.initial.elf l.elf l.initial.outputs l.outputs
    (λ o. entries_report l.name l.s.0 (entry.report l.name o l.s.0) (g.R.VersionEntry.entries o l.s.0 0 l.first))
    (λ o. entries_report l.name l.s.0 (entry.report l.name o l.s.0) (g.R.VersionEntry.entries o l.s.0 0 l.at))

abbrev pub decreases-entries : goal.decreases-entries
decreases-entries g l = count_at l.initial.elf.o l.s.0 0 - l.at
