use Rattle.std.proofs.Common.{sym, ◌∙◌}
use Rattle.tool_objects.proofs.ElfSteps.{elf_as}
use Rattle.readelf_tables.specs.Relocations.{rels_of_section, relas_of_section, relocations_of_section}
use Rattle.readelf_tables.proofs.RelocationLemmas.{rels_shown, relas_shown}
use Rattle.readelf_tables.proofs.relocations.RelocationsSectionPart.show.Goals as goal

pub returns-then-is_of_type : goal.returns-then-is_of_type
returns-then-is_of_type g c =
    let name = c.args.name.now in
    let s = c.args.s.0 in
    elf_as g.S.Source g.O.Sink g.E.Sink (λ o. relas_of_section name o s) (λ o. relocations_of_section name o s) _ c.args.elf.now _ c.args.outputs.now _
    (λ told. relas_shown name c.args.elf.now.o s (sym c.is_of_type.ensures ∙ c.if-is_of_type.true)) c.show_relas.ensures

pub returns-else-is_of_type : goal.returns-else-is_of_type
returns-else-is_of_type g c =
    let name = c.args.name.now in
    let s = c.args.s.0 in
    elf_as g.S.Source g.O.Sink g.E.Sink (λ o. rels_of_section name o s) (λ o. relocations_of_section name o s) _ c.args.elf.now _ c.args.outputs.now _
    (λ told. rels_shown name c.args.elf.now.o s (sym c.is_of_type.ensures ∙ c.if-is_of_type.false)) c.show_rels.ensures
