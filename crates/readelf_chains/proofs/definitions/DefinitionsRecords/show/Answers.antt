use Rattle.std.proofs.Common.{ℕ, Option, ap, sym}
use Rattle.tool_objects.proofs.ElfSteps.{elf_as}
use Rattle.tool_objects.specs.gelf_view.Chains.{verdefs}
use Rattle.readelf_chains.specs.Entries.{entries_by, entries_report}
use Rattle.readelf_chains.specs.Definitions.{verdef_report, definitions_records}
use Rattle.readelf_chains.proofs.definitions.DefinitionsRecords.show.Goals as goal

pub show_entries-requires : goal.show_entries-requires
show_entries-requires g c = c.requires.section

pub returns : goal.returns
unfolding definitions_records
returns g c =
    let s = c.args.s.0 in
    let name = c.args.name.now in
    elf_as g.S.Source g.O.Sink g.E.Sink (λ o. entries_report name s (verdef_report name o s) (entries_by c.args.first (verdefs o s 0))) (λ o. definitions_records name o s) _ c.args.elf.now _ c.args.outputs.now _
    (λ told. ap (λ (first : Option ℕ). entries_report name s (verdef_report name c.args.elf.now.o s) (entries_by first (verdefs c.args.elf.now.o s 0))) (sym c.requires.place)) c.show_entries.ensures
