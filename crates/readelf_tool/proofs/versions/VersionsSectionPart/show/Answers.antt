use Rattle.std.proofs.Common.{sym, ◌∙◌}
use Rattle.tool_objects.proofs.ElfSteps.{elf_as}
use Rattle.readelf_chains.specs.Definitions.{definitions_of_section}
use Rattle.readelf_chains.specs.Needs.{needs_of_section}
use Rattle.readelf_tables.specs.Indexes.{indexes_of_section}
use Rattle.readelf_tool.specs.Versions.{versions_of_section}
use Rattle.readelf_tool.proofs.VersionLemmas.{indexes_shown, definitions_shown, needs_shown}
use Rattle.readelf_tool.proofs.versions.VersionsSectionPart.show.Goals as goal

pub returns-then-indexes : goal.returns-then-indexes
returns-then-indexes g c =
    let name = c.args.name.now in
    let s = c.args.s.0 in
    elf_as g.S.Source g.O.Sink g.E.Sink (λ o. indexes_of_section name o s) (λ o. versions_of_section name o s) _ c.args.elf.now _ c.args.outputs.now _
    (λ told. indexes_shown name c.args.elf.now.o s (sym c.is_of_type-indexes.ensures ∙ c.if-indexes.true)) c.show_indexes.ensures

pub returns-then-definitions : goal.returns-then-definitions
returns-then-definitions g c =
    let name = c.args.name.now in
    let s = c.args.s.0 in
    elf_as g.S.Source g.O.Sink g.E.Sink (λ o. definitions_of_section name o s) (λ o. versions_of_section name o s) _ c.args.elf.now _ c.args.outputs.now _
    (λ told. definitions_shown name c.args.elf.now.o s (sym c.is_of_type-indexes.ensures ∙ c.if-indexes.false) (sym c.is_of_type-definitions.ensures ∙ c.if-definitions.true)) c.show_definitions.ensures

pub returns : goal.returns
returns g c =
    let name = c.args.name.now in
    let s = c.args.s.0 in
    elf_as g.S.Source g.O.Sink g.E.Sink (λ o. needs_of_section name o s) (λ o. versions_of_section name o s) _ c.args.elf.now _ c.args.outputs.now _
    (λ told. needs_shown name c.args.elf.now.o s (sym c.is_of_type-indexes.ensures ∙ c.if-indexes.false) (sym c.is_of_type-definitions.ensures ∙ c.if-definitions.false)) c.show_needs.ensures
