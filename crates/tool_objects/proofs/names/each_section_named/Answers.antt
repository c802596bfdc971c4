use Rattle.gelf_view.specs.elf_object.Due.{all_sections}
use Rattle.gelf_view.specs.elf_object.Strings as strings
use Rattle.tool_objects.specs.Sections.{sections_named}
use Rattle.tool_objects.proofs.ElfSteps.{elf_as}
use Rattle.tool_objects.proofs.NameLemmas.{reports_where}
use Rattle.tool_objects.proofs.names.each_section_named.Goals as goal
use Rattle.std.proofs.Common.{sym}

pub returns : goal.returns
unfolding sections_named
returns g c =
    let o = c.args.elf.now.o in
    elf_as g.S.Source g.O.Sink g.E.Sink _ _ _ c.args.elf.now _ c.args.outputs.now _
    (λ told. sym (reports_where (λ s. strings.is_name c.args.name.now (strings.section_name o s)) (g.T.SectionTool.report c.args.tool.now o) (all_sections o))) c.each_section.ensures
