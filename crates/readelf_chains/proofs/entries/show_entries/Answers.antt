use Rattle.std.proofs.Common.{None, refl}
use Rattle.tool_objects.specs.gelf_view.Chains.{ended}
use Rattle.tool_objects.proofs.ElfSteps.{elf_left, elf_says_none}
use Rattle.readelf_chains.specs.Entries.{entries_by, entries_report}
use Rattle.readelf_chains.proofs.EntryLemmas.{entries_ended}
use Rattle.readelf_chains.proofs.entries.show_entries.Goals as goal

pub returns-in-Some : goal.returns-in-Some
returns-in-Some g c = rw c.in-Some.is c.show_from.ensures

pub returns-in-None : goal.returns-in-None
returns-in-None g c =
    let s = c.args.s.0 in
    let name = c.args.name.now in
    let entry = g.R.ShownEntry in
    rw c.in-None.is (elf_says_none g.S.Source g.O.Sink g.E.Sink (λ o. entries_report name s (entry.report name o s) (entries_by None (g.R.VersionEntry.entries o s 0))) c.args.elf.now _ c.args.outputs.now (elf_left g.S.Source c.args.elf.now)
    (λ told. entries_ended name s (entry.report name c.args.elf.now.o s) ended refl))
